pub mod Parts
pub mod Managed
pub mod Changes
pub mod Spots
pub mod Groups
-- definitions of crates below, passed on to the crates above
pub use Rattle.meaning_tables.specs.cells as cells
pub use Rattle.meaning_tables.specs as tables
