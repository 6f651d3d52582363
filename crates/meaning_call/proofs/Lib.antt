pub mod BoundLaws
pub mod IndexLaws
pub mod ShapeLaws
-- laws of crates below, passed on to the crates above
pub use Rattle.meaning_form.proofs.cells as cells
