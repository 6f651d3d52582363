-- Laws of OuterJoinLaws under the name that others know.
pub use Rattle.label_align.proofs.OuterJoinLaws.{flat_map_more}
