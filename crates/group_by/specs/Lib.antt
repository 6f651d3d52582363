pub mod Cells
pub mod Gathered
pub mod Counted
pub mod Distincts
pub mod Operations
pub mod Answers
