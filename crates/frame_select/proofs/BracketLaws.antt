-- Laws of HeadingLaws under the name that others know.
pub use Rattle.frame_select.proofs.HeadingLaws.{columns_planned}
