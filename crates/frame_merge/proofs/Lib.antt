pub mod KeyLaws
pub mod RowLaws
pub mod TableLaws
pub mod Hints
