pub mod Signature
pub mod Binding
pub mod Functions
-- definitions of crates below, passed on to the crates above
pub use Rattle.meaning_form.specs.cell_core as cell_core
pub use Rattle.meaning_form.specs.cells as cells
pub use Rattle.meaning_form.specs as form
