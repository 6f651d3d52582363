pub mod PartLaws
pub mod ColumnLaws
pub mod ValueLaws
pub mod SettingLaws
pub mod StoreLaws
pub mod BlockLaws
pub mod KeptLaws
pub mod ChangedLaws
pub mod HeldLaws
pub mod OnceLaws
pub mod CellLaws
pub mod ObjectLaws
pub mod Settling
pub mod RowLaws
pub mod FormLaws
pub mod ObjectMade
-- laws of crates below, passed on to the crates above
pub use Rattle.meaning_tables.proofs.cells as cells
pub use Rattle.meaning_tables.proofs as tables
