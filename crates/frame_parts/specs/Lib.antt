pub mod Makes
pub mod Faults
-- definitions of crates below, passed on to the crates above
pub use Rattle.label_align.specs as label_align
pub use Rattle.meaning_form.specs.align as align
pub use Rattle.meaning_form.specs as form
