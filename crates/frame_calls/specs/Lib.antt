pub mod Calls
pub mod Chains
-- definitions of crates below, passed on to the crates above
pub use Rattle.frame_labels.specs as frame_labels
