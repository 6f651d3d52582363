pub mod ToldLaws
pub mod FieldLaws
pub mod EscapeLaws
pub mod RecordLaws
pub mod WholeLaws
pub mod ReadBack
pub mod TextOfRecords
pub mod Hints
