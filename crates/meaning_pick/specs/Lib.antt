pub mod Faults
pub mod Rows
pub mod Leading
pub mod Labels
pub mod Slices
pub mod Positions
pub mod Masks
pub mod Keys
-- definitions of crates below, passed on to the crates above
pub use Rattle.meaning_cells.specs as cells
