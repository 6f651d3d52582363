pub mod Keys
pub mod Numbers
pub mod Codes
-- definitions of crates below, passed on to the crates above
pub use Rattle.label_align.specs.index_core as index_core
pub use Rattle.label_align.specs as label_align
pub use Rattle.meaning_group.specs as group
pub use Rattle.meaning_group.specs.pick as pick
pub use Rattle.multi_index.specs as multi_index
pub use Rattle.row_keys.specs as row_keys
pub use Rattle.label_align.specs as label_align
pub use Rattle.label_align.specs.index_core as index_core
pub use Rattle.meaning_group.specs.align as align
