pub mod Ranges
pub mod Views
pub mod Labels
pub mod Picks
pub mod Splits
pub mod Found
pub mod Known
-- definitions of crates below, passed on to the crates above
pub use Rattle.meaning_pick.specs.cells as cells
pub use Rattle.meaning_pick.specs as pick
