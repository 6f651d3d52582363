pub mod View
pub mod Absent
-- definitions of crates below, passed on to the crates above
pub use Rattle.meaning_query.specs as query
