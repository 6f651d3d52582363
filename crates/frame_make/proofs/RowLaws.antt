-- Laws of FrameLaws under the name that others know.
pub use Rattle.frame_make.proofs.FrameLaws.{rows_next}
