pub mod Names
pub mod LexLaws
-- laws of crates below, passed on to the crates above
pub use Rattle.meaning_query.proofs as query
