pub mod Keys
pub mod Picks
pub mod Lists
pub mod Masks
pub mod PythonSlice
-- definitions of crates below, passed on to the crates above
pub use Rattle.index_core.specs as index_core
pub use Rattle.index_core.specs.pick as pick
