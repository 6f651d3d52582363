pub mod Styles
pub mod Layouts
pub mod Written
pub mod ReadBack
