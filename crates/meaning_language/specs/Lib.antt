pub mod Tree
pub mod Depth
pub mod Token
pub mod Grammar
pub mod Pieces
pub mod Script
-- definitions of crates below, passed on to the crates above
pub use Rattle.meaning_cells.specs as cells
