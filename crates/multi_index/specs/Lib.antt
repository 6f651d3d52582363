pub mod Axes
pub mod Levels
pub mod Kept
pub mod Views
pub mod Picks
-- definitions of crates below, passed on to the crates above
pub use Rattle.index_core.specs as index_core
pub use Rattle.index_core.specs.cells as cells
pub use Rattle.index_core.specs.pick as pick
