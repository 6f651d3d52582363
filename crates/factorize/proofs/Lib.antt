pub mod LabelLaws
pub mod PlaceLaws
pub mod NumberLaws
pub mod GroupLaws
pub mod LawOfGroups
pub mod KeyNumberLaws
pub mod Hints
-- laws of crates below, passed on to the crates above
pub use Rattle.label_align.proofs as label_align
pub use Rattle.meaning_group.proofs as group
pub use Rattle.meaning_group.proofs.pick as pick
pub use Rattle.row_keys.proofs as row_keys
pub use Rattle.meaning_group.proofs.align as align
pub use Rattle.sorting.proofs as sorting
pub use Rattle.label_align.proofs as label_align
