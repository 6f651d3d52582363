pub mod WalkLaws
pub mod KeyLaws
pub mod GroupLaws
pub mod MergeLaws
