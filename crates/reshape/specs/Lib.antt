pub mod Answers
pub mod Slots
pub mod Blocks
-- definitions of crates below, passed on to the crates above
pub use Rattle.meaning_shapes.specs as shapes
pub use Rattle.row_keys.specs as row_keys
