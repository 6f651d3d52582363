pub mod Filled
pub mod Bound
pub mod Found
pub mod Rule
pub mod Scalars
pub mod Names
-- definitions of crates below, passed on to the crates above
pub use Rattle.meaning_call.specs as call
