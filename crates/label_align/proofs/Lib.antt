pub mod SameLaws
mod Example
pub mod EntryLaws
pub mod OrderLaws
pub mod OuterJoinLaws
pub mod LawOfJoins
pub mod TargetLaws
pub mod Hints
-- laws of crates below, passed on to the crates above
pub use Rattle.index_core.proofs as index_core
pub use Rattle.meaning_align.proofs as align
