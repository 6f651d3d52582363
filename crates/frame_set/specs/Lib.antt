pub mod Assigned
pub mod Values
pub mod Places
pub mod Fits
pub mod Changes
pub mod Grown
pub mod Aligned
pub mod Sole
