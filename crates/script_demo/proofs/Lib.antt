pub mod OrderLaws
pub mod SizeLaws
