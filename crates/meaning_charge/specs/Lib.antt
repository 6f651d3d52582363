pub mod Charge
-- definitions of crates below, passed on to the crates above
pub use Rattle.meaning_select.specs as select
