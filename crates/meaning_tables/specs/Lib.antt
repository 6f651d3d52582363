pub mod Table
pub mod Change
pub mod Valid
pub mod Value
pub mod Cost
pub mod Settled
-- definitions of crates below, passed on to the crates above
pub use Rattle.meaning_cells.specs.cell_core as cell_core
pub use Rattle.meaning_cells.specs as cells
