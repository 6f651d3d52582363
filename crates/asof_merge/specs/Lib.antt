pub mod Walk
pub mod Keys
pub mod Answers
