pub mod Bindings
pub mod Worlds
pub mod States
pub mod UseLaws
pub mod PeakLaws
pub mod Rides
pub mod ChargeLaws
pub mod Fetching
pub mod Printed
pub mod Validity
pub mod Hints
pub mod Evaluations
pub mod Calls
-- laws of crates below, passed on to the crates above
pub use Rattle.meaning_laws.proofs.cells as cells
pub use Rattle.meaning_laws.proofs as laws
