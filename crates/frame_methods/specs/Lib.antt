pub mod Columns
pub mod Marks
pub mod Summaries
pub mod Made
pub mod Calls
pub mod Listed
pub mod Renames
pub mod Sorts
pub mod Rows
-- definitions of crates below, passed on to the crates above
pub use Rattle.frame_parts.specs as frame_parts
pub use Rattle.nullable_array.specs as nullable_array
pub use Rattle.sorting.specs as sorting
