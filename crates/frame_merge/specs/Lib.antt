pub mod Calls
pub mod Keys
pub mod Rows
pub mod Headings
pub mod Columns
-- definitions of crates below, passed on to the crates above
pub use Rattle.frame_labels.specs as frame_labels
