pub mod NearestLaws
pub mod SeenLaws
pub mod Cases
-- laws of crates below, passed on to the crates above
pub use Rattle.meaning_pick.proofs as pick
