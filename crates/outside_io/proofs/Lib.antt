pub mod Appended
pub mod Held
pub mod ReadOff
pub mod Shelving
pub mod Under
