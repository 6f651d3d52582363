pub mod RangeLaws
pub mod SameLaws
pub mod NumberLaws
pub mod SplitLaws
pub mod LinkLaws
pub mod DifferLaws
pub mod BoundLaws
pub mod TextLaws
-- laws of crates below, passed on to the crates above
pub use Rattle.meaning_pick.proofs.cells as cells
pub use Rattle.meaning_pick.proofs as pick
