pub mod CsvRead
-- definitions of crates below, passed on to the crates above
pub use Rattle.meaning_tables.specs as tables
