-- Laws of HeadingLaws under the name that others know.
pub use Rattle.frame_select.proofs.HeadingLaws.{no_key_settled, repeated_settled, shared_settled}
