pub mod Picked
pub mod Selected
pub mod Headings
pub mod Reaches
pub mod Chosen
pub mod Plans
pub mod Across
-- definitions of crates below, passed on to the crates above
pub use Rattle.meaning_charge.specs as charge
pub use Rattle.meaning_charge.specs.select as select
