pub mod Line
pub mod Parsed
pub mod Rows
pub mod Spelling
pub mod Turns
pub mod WalkRule
