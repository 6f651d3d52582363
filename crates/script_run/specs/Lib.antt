pub mod Ends
pub mod Errors
pub mod Exit
pub mod Steps
pub mod OneResult
pub mod Words
