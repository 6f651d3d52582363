pub mod BlankLaws
pub mod FirstPiece
pub mod LexLaws
pub mod Runs
pub mod Signs
pub mod Texts
pub mod TokenLaws
-- laws of crates below, passed on to the crates above
pub use Rattle.meaning_language.proofs.cells as cells
