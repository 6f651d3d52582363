pub mod PatternLaws
pub mod StripLaws
pub mod FillLaws
pub mod SliceLaws
pub mod Cases
-- laws of crates below, passed on to the crates above
pub use Rattle.meaning_pick.proofs as pick
