-- Laws of CutLaws under the name that others know.
pub use Rattle.frame_select.proofs.CutLaws.{chosen_rows, chosen_settled}
