pub mod View
pub mod ScriptView
