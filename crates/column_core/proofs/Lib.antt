pub mod ColumnLaws
pub mod RowsMade
pub mod CellRows
pub mod MoveLaws
pub mod StrideLaws
pub mod BlockLaws
pub mod Hints
-- laws of crates below, passed on to the crates above
pub use Rattle.meaning_cells.proofs as cells
