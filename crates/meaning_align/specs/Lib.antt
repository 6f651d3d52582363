pub mod Faults
pub mod Joins
pub mod Targets
pub mod OuterJoin
-- definitions of crates below, passed on to the crates above
pub use Rattle.sorting.specs.cell_core as cell_core
pub use Rattle.meaning_pick.specs.cells as cells
pub use Rattle.meaning_pick.specs as pick
pub use Rattle.sorting.specs as sorting
