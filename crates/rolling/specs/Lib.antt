pub mod Answers
pub mod Candidates
pub mod Expandings
pub mod Running
pub mod Windows
