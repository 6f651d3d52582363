-- laws of crates below, passed on to the crates above
pub use Rattle.meaning_group.proofs.align as align
pub use Rattle.meaning_call.proofs as call
pub use Rattle.meaning_call.proofs.cells as cells
pub use Rattle.meaning_csv.proofs as csv
pub use Rattle.meaning_group.proofs.pick as pick
pub use Rattle.meaning_select.proofs.tables as tables
pub use Rattle.meaning_group.proofs.sorting as sorting
