pub mod Count
pub mod Sink
pub mod Files
pub mod Whole
pub mod Memory
pub mod Shelf
pub mod Real
