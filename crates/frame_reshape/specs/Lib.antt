pub mod Checks
pub mod Keys
pub mod Stacks
pub mod Spreads
pub mod Pivots
pub mod Groups
pub mod Melts
pub mod Calls
