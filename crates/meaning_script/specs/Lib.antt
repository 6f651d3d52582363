pub mod State
pub mod Spent
pub mod Reading
pub mod Expression
pub mod Statement
pub mod Run
-- definitions of crates below, passed on to the crates above
pub use Rattle.meaning_method.specs.align as align
pub use Rattle.meaning_method.specs.call as call
pub use Rattle.meaning_method.specs.cells as cells
pub use Rattle.meaning_charge.specs as charge
pub use Rattle.meaning_method.specs.csv as csv
pub use Rattle.meaning_method.specs.form as form
pub use Rattle.meaning_method.specs.format as format
pub use Rattle.meaning_method.specs.group as group
pub use Rattle.meaning_method.specs.join as join
pub use Rattle.meaning_language.specs as language
pub use Rattle.meaning_method.specs as method
pub use Rattle.meaning_method.specs.pick as pick
pub use Rattle.meaning_query.specs as query
pub use Rattle.meaning_method.specs.shapes as shapes
pub use Rattle.meaning_method.specs.select as select
pub use Rattle.meaning_method.specs.tables as tables
pub use Rattle.meaning_method.specs.text as text
pub use Rattle.meaning_method.specs.window as window
