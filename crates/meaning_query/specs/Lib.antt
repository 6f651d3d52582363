pub mod QueryToken
pub mod Query
pub mod Lexing
pub mod Reading
pub mod At
pub mod QueryLaw
pub mod Method
-- definitions of crates below, passed on to the crates above
pub use Rattle.meaning_language.specs as language
