pub mod View
pub mod Absent
pub mod Quoted
-- definitions of crates below, passed on to the crates above
pub use Rattle.meaning_language.specs.cells as cells
pub use Rattle.meaning_language.specs as language
