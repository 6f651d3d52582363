pub mod CandidateLaws
pub mod RunningLaws
pub mod SlideLaws
pub mod ExpandingLaws
pub mod ColumnLaws
