pub mod Answers
pub mod Found
pub mod Nests
-- definitions of crates below, passed on to the crates above
pub use Rattle.meaning_query.specs as query
