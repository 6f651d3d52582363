-- Laws of CutLaws under the name that others know.
pub use Rattle.frame_select.proofs.CutLaws.{column_seen, own_labels, own_name}
