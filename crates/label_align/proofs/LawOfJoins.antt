-- Laws of OuterJoinLaws under the name that others know.
pub use Rattle.label_align.proofs.OuterJoinLaws.{tuple_weak}
