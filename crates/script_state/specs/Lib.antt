pub mod Bindings
pub mod Uses
pub mod Reads
pub mod Charges
pub mod Faults
pub mod Work
pub mod Evaluates
-- definitions of crates below, passed on to the crates above
pub use Rattle.frame_calls.specs as frame_calls
pub use Rattle.frame_calls.specs.frame_labels as frame_labels
pub use Rattle.frame_select.specs as frame_select
pub use Rattle.frame_set.specs as frame_set
pub use Rattle.meaning_laws.specs.call as call
pub use Rattle.meaning_laws.specs.cells as cells
pub use Rattle.meaning_laws.specs.charge as charge
pub use Rattle.meaning_laws.specs.language as language
pub use Rattle.meaning_laws.specs as laws
pub use Rattle.meaning_laws.specs.method as method
pub use Rattle.meaning_laws.specs.script as script
pub use Rattle.meaning_laws.specs.select as select
pub use Rattle.meaning_laws.specs.tables as tables
pub use Rattle.script_tokens.specs as script_tokens
