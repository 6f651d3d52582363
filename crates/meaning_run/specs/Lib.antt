pub mod Asked
pub mod Result
-- definitions of crates below, passed on to the crates above
pub use Rattle.meaning_script.specs as script
pub use Rattle.meaning_words.specs as words
