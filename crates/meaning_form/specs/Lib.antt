pub mod Given
pub mod Finish
pub mod Infix
pub mod Select
pub mod Set
pub mod Make
-- definitions of crates below, passed on to the crates above
pub use Rattle.meaning_align.specs.cell_core as cell_core
pub use Rattle.meaning_align.specs as align
pub use Rattle.meaning_tables.specs.cells as cells
pub use Rattle.meaning_align.specs.pick as pick
pub use Rattle.meaning_tables.specs as tables
