pub mod Quoting
pub mod KeyLaws
