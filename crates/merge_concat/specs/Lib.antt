pub mod Codes
pub mod Pairs
pub mod Joining
pub mod JoinOrder
pub mod Concats
pub mod Parts
pub mod Growing
pub mod Axes
