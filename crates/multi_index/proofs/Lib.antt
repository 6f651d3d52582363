pub mod NameLaws
pub mod DistinctLaws
pub mod KnownLaws
pub mod OrderedLaws
pub mod SeenLaws
pub mod LevelTuples
pub mod WholeLaws
pub mod CodeLaws
pub mod AxisLaws
pub mod TupleLaws
pub mod SameTuples
pub mod PickLaws
pub mod SideLaws
pub mod LevelLaws
pub mod ListedLaws
pub mod AddedLaws
pub mod Hints
-- laws of crates below, passed on to the crates above
pub use Rattle.index_core.proofs as index_core
pub use Rattle.index_core.proofs.cells as cells
pub use Rattle.index_core.proofs.pick as pick
