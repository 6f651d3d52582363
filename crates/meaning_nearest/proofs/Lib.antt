pub mod Cases
-- laws of crates below, passed on to the crates above
pub use Rattle.meaning_asof.proofs as asof
