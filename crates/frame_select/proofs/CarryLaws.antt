-- Laws of CutLaws under the name that others know.
pub use Rattle.frame_select.proofs.CutLaws.{row_inside}
