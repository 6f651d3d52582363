pub mod OrderLaws
pub mod SeenLaws
pub mod FoundLaws
pub mod InsideLaws
pub mod DifferLaws
-- laws of crates below, passed on to the crates above
pub use Rattle.meaning_pick.proofs.cells as cells
pub use Rattle.meaning_pick.proofs as pick
pub use Rattle.sorting.proofs as sorting
