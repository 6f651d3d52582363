pub mod Tasks
pub mod Operations
pub mod Joins
pub mod Pairs
pub mod Quotients
pub mod Marks
pub mod Vectors
