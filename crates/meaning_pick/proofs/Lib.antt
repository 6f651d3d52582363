pub mod RowLaws
pub mod OrderLaws
pub mod SeenLaws
pub mod InsideLaws
pub mod PositionLaws
pub mod KeyLaws
pub mod LeadingLaws
-- laws of crates below, passed on to the crates above
pub use Rattle.meaning_cells.proofs as cells
