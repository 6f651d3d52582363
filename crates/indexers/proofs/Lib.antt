pub mod TurnLaws
pub mod AnswerLaws
pub mod ListLaws
pub mod SpanLaws
pub mod SliceLaws
pub mod MaskLaws
pub mod TextLaws
pub mod Hints
-- laws of crates below, passed on to the crates above
pub use Rattle.index_core.proofs.pick as pick
