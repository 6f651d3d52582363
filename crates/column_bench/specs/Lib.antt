pub mod Data
pub mod Work
pub mod Operation
pub mod Checks
