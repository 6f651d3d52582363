pub mod ColumnLaws
pub mod HeldLaws
pub mod OpLaws
pub mod TableLaws
pub mod SummaryLaws
pub mod SeriesLaws
pub mod CallLaws
pub mod AnswerLaws
pub mod NameLaws
pub mod ListedLaws
pub mod RenameLaws
pub mod CsvLaws
pub mod RowLaws
pub mod DuplicateLaws
pub mod SortLaws
pub mod ShapeLaws
pub mod Hints
-- laws of crates below, passed on to the crates above
pub use Rattle.frame_parts.proofs as frame_parts
pub use Rattle.nullable_array.proofs as nullable_array
pub use Rattle.sorting.proofs as sorting
