-- Laws of CutLaws under the name that others know.
pub use Rattle.frame_select.proofs.CutLaws.{chosen_whole, one_more_single, place_inside}
