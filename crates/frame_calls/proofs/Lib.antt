pub mod NameLaws
pub mod ShapeLaws
pub mod WindowLaws
pub mod CallLaws
-- laws of crates below, passed on to the crates above
pub use Rattle.frame_methods.proofs.frame_parts as frame_parts
