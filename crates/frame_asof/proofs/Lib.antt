pub mod KeyLaws
pub mod RowLaws
pub mod MergeLaws
