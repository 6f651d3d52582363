-- laws of crates below, passed on to the crates above
pub use Rattle.meaning_align.proofs as align
pub use Rattle.meaning_align.proofs.pick as pick
pub use Rattle.meaning_tables.proofs as tables
pub use Rattle.meaning_tables.proofs.cells as cells
