pub mod Asked
pub mod Keys
pub mod Rows
