pub mod PartLaws
pub mod BelowLaws
pub mod BesideLaws
pub mod PlaceLaws
pub mod Hints
-- laws of crates below, passed on to the crates above
pub use Rattle.frame_parts.proofs as frame_parts
