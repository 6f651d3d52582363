pub mod AxisLaws
pub mod RowLaws
pub mod FrameLaws
pub mod Hints
pub mod NameLaws
pub mod FileFrameLaws
pub mod ReadLaws
