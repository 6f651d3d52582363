pub mod FrameLaws
pub mod WriteLaws
