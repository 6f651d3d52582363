pub mod Texts
pub mod Rows
pub mod Levels
pub mod Reindex
pub mod Section
pub mod Methods
pub mod Groups
pub mod Windows
pub mod StrCalls
pub mod Merge
pub mod Concat
pub mod Reshape
pub mod Calls
pub mod Charges
pub mod Readers
pub mod Functions
-- definitions of crates below, passed on to the crates above
pub use Rattle.meaning_group.specs.align as align
pub use Rattle.meaning_call.specs as call
pub use Rattle.meaning_call.specs.cells as cells
pub use Rattle.meaning_csv.specs as csv
pub use Rattle.meaning_call.specs.form as form
pub use Rattle.meaning_format.specs as format
pub use Rattle.meaning_group.specs as group
pub use Rattle.meaning_shapes.specs.join as join
pub use Rattle.meaning_group.specs.pick as pick
pub use Rattle.meaning_shapes.specs as shapes
pub use Rattle.meaning_select.specs as select
pub use Rattle.meaning_select.specs.tables as tables
pub use Rattle.meaning_text.specs as text
pub use Rattle.meaning_window.specs as window
