pub mod AsOf
-- definitions of crates below, passed on to the crates above
pub use Rattle.meaning_pick.specs as pick
pub use Rattle.meaning_pick.specs.cells as cells
