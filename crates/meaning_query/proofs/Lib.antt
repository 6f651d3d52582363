pub mod Takes
pub mod Sound
pub mod Gives
pub mod Complete
pub mod Fronts
pub mod Lexing
pub mod Law
-- laws of crates below, passed on to the crates above
pub use Rattle.meaning_language.proofs as language
