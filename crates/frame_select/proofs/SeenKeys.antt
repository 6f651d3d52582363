-- Laws of ReachLaws under the name that others know.
pub use Rattle.frame_select.proofs.ReachLaws.{labels_found, places_found, range_below}
