pub mod JsonWrite
pub mod JsonRead
-- definitions of crates below, passed on to the crates above
pub use Rattle.meaning_format.specs as format
pub use Rattle.meaning_form.specs as form
pub use Rattle.meaning_form.specs.tables as tables
pub use Rattle.meaning_format.specs.cells as cells
