pub mod KeyLaws
pub mod ColumnLaws
pub mod ShownLaws
pub mod RowLaws
pub mod GroupLaws
pub mod FormLaws
pub mod Hints
