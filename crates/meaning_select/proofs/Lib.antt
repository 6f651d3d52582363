-- laws of crates below, passed on to the crates above
pub use Rattle.meaning_form.proofs.tables as tables
