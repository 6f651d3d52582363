pub mod Parts
pub mod Columns
pub mod Headings
pub mod Asked
pub mod Axes
pub mod Below
pub mod Beside
