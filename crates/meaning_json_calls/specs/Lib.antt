pub mod JsonCalls
-- definitions of crates below, passed on to the crates above
pub use Rattle.meaning_json.specs as json
pub use Rattle.meaning_json.specs.cells as cells
pub use Rattle.meaning_json.specs.form as form
pub use Rattle.meaning_json.specs.tables as tables
