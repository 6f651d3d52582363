pub mod Labels
pub mod Answers
pub mod ReadBack
pub mod Views
pub mod Kinds
