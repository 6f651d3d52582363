pub mod Validity
pub mod FormFault
pub mod Paid
-- definitions of crates below, passed on to the crates above
pub use Rattle.meaning_script.specs.call as call
pub use Rattle.meaning_script.specs.cells as cells
pub use Rattle.meaning_script.specs.charge as charge
pub use Rattle.meaning_script.specs.csv as csv
pub use Rattle.meaning_script.specs.form as form
pub use Rattle.meaning_script.specs.format as format
pub use Rattle.meaning_script.specs.language as language
pub use Rattle.meaning_script.specs.method as method
pub use Rattle.meaning_script.specs as script
pub use Rattle.meaning_script.specs.select as select
pub use Rattle.meaning_script.specs.tables as tables
