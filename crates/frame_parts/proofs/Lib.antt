pub mod LabelLaws
pub mod TableMade
pub mod RowLaws
pub mod LimitLaws
pub mod GapLaws
pub mod CellLaws
pub mod Common
-- laws of crates below, passed on to the crates above
pub use Rattle.label_align.proofs as label_align
pub use Rattle.meaning_form.proofs.align as align
