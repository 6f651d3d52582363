pub mod Parts
pub mod Links
pub mod Masks
pub mod Faults
pub mod Apart
pub mod Session
-- definitions of crates below, passed on to the crates above
pub use Rattle.script_state.specs.cells as cells
pub use Rattle.script_state.specs.language as language
pub use Rattle.script_state.specs.script as script
pub use Rattle.script_state.specs as script_state
