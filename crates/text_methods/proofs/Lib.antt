pub mod PlaceLaws
pub mod RowLaws
pub mod MethodLaws
-- laws of crates below, passed on to the crates above
pub use Rattle.meaning_text.proofs as text
