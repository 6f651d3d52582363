pub mod Lanes
pub mod Columns
pub mod Views
pub mod Rows
pub mod Moves
pub mod Blocks
-- definitions of crates below, passed on to the crates above
pub use Rattle.meaning_cells.specs as cells
