pub mod SpreadLaws
pub mod BlockLaws
pub mod LaneLaws
pub mod UnstackLaws
pub mod StackBack
-- laws of crates below, passed on to the crates above
pub use Rattle.meaning_shapes.proofs as shapes
