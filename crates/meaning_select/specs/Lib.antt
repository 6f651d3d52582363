pub mod Keys
pub mod Select
pub mod Set
-- definitions of crates below, passed on to the crates above
pub use Rattle.meaning_form.specs.tables as tables
