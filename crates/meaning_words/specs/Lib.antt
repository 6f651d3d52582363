pub mod Words
pub mod Demonstration
