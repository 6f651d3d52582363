pub mod Reshape
pub mod Unstacking
pub mod Stacking
-- definitions of crates below, passed on to the crates above
pub use Rattle.meaning_join.specs.tables as tables
pub use Rattle.meaning_join.specs as join
