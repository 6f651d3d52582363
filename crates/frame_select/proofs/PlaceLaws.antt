-- Laws of HeadingLaws under the name that others know.
pub use Rattle.frame_select.proofs.HeadingLaws.{heading_seen, heading_settled, label_settled, moved, place_met, place_passed}
