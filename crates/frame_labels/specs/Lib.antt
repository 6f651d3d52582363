pub mod Columns
pub mod Faults
pub mod Labels
pub mod Rows
pub mod Levels
pub mod RowGroups
pub mod Named
pub mod Reindexed
pub mod Section
pub mod LevelColumns
pub mod Resets
-- definitions of crates below, passed on to the crates above
pub use Rattle.meaning_method.specs.format as format
pub use Rattle.meaning_method.specs as method
