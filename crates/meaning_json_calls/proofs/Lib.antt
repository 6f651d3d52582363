pub mod ReadLaws
pub mod NumberLaws
pub mod ValidLaws
