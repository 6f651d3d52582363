-- Laws of JoinLaws under the name that others know.
pub use Rattle.merge_concat.proofs.JoinLaws.{with_seen}
