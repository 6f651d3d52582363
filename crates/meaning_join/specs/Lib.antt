pub mod Pairs
pub mod Concat
-- definitions of crates below, passed on to the crates above
pub use Rattle.meaning_align.specs as align
pub use Rattle.meaning_align.specs.pick as pick
pub use Rattle.meaning_tables.specs as tables
pub use Rattle.meaning_tables.specs.cells as cells
