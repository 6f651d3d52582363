pub mod Answers
pub mod Casts
pub mod Folds
pub mod Distincts
pub mod Pairs
