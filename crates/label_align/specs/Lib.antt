pub mod Tuples
pub mod Runs
pub mod Both
pub mod Joined
pub mod Answers
pub mod Targets
-- definitions of crates below, passed on to the crates above
pub use Rattle.index_core.specs as index_core
pub use Rattle.meaning_align.specs as align
pub use Rattle.meaning_align.specs.pick as pick
pub use Rattle.row_keys.specs as row_keys
