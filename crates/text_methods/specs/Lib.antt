pub mod Answers
pub mod Rows
-- definitions of crates below, passed on to the crates above
pub use Rattle.meaning_text.specs as text
