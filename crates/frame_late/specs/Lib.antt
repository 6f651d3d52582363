pub mod StrOps
pub mod Told
