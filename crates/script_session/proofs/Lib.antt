pub mod MaskLaws
pub mod Parts
pub mod Trees
pub mod Gathering
pub mod Refusing
pub mod Answering
pub mod Settings
pub mod Within
-- laws of crates below, passed on to the crates above
pub use Rattle.script_state.proofs.cells as cells
pub use Rattle.script_state.proofs as script_state
