-- laws of crates below, passed on to the crates above
pub use Rattle.meaning_align.proofs as align
pub use Rattle.meaning_tables.proofs.cells as cells
pub use Rattle.meaning_tables.proofs as tables
