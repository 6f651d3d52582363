pub mod RowLaws
pub mod GatherLaws
pub mod NumberLaws
pub mod DistinctLaws
pub mod CallLaws
pub mod Hints
