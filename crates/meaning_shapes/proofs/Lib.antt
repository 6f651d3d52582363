pub mod GridLaws
pub mod EntryLaws
pub mod StackLaws
