pub mod Views
pub mod Rows
pub mod Growing
pub mod Labels
pub mod Numbered
