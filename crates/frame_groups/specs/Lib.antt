pub mod Calls
pub mod Grouped
pub mod Columns
pub mod Tables
