pub mod Cut
pub mod Reading
pub mod At
pub mod Found
pub mod Nests
pub mod PieceRead
pub mod Parsed
pub mod OneReading
