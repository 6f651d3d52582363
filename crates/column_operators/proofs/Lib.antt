pub mod TaskAnswers
pub mod Laws
pub mod Scalars
pub mod QuotientLaws
pub mod MarkLaws
pub mod RowLaws
pub mod VectorLaws
pub mod Hints
