pub mod AsofMerge
-- definitions of crates below, passed on to the crates above
pub use Rattle.meaning_asof.specs as asof
pub use Rattle.meaning_method.specs as method
