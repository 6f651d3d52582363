-- names of proofs of the crates below, passed on to the crates above
pub use Rattle.meaning_format.proofs.cells as cells
