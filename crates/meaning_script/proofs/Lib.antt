-- laws of crates below, passed on to the crates above
pub use Rattle.meaning_method.proofs.align as align
pub use Rattle.meaning_method.proofs.call as call
pub use Rattle.meaning_method.proofs.cells as cells
pub use Rattle.meaning_method.proofs.csv as csv
pub use Rattle.meaning_method.proofs.pick as pick
pub use Rattle.meaning_method.proofs.tables as tables
pub use Rattle.meaning_method.proofs.sorting as sorting
