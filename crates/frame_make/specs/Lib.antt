pub mod Scalars
pub mod Index
pub mod Pairs
pub mod Made
pub mod Names
pub mod Kinds
pub mod Frames
-- definitions of crates below, passed on to the crates above
pub use Rattle.meaning_method.specs.join as join
pub use Rattle.meaning_method.specs as method
