pub mod Lists
pub mod Parts
pub mod Stores
pub mod Setting
pub mod Views
pub mod Grids
pub mod Objects
pub mod Arguments
pub mod Readers
pub mod Shown
pub mod Derivations
pub mod World
-- definitions of crates below, passed on to the crates above
pub use Rattle.meaning_tables.specs.cells as cells
pub use Rattle.meaning_tables.specs as tables
