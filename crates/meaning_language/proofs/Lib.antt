-- laws of crates below, passed on to the crates above
pub use Rattle.meaning_cells.proofs as cells
