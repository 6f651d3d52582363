pub mod Points
pub mod TextMethod
-- definitions of crates below, passed on to the crates above
pub use Rattle.meaning_pick.specs as pick
