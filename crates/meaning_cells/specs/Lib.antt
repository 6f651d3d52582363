pub mod Text
pub mod Cell
pub mod Column
pub mod Place
pub mod Block
pub mod Symbol
pub mod Operator
pub mod Cast
pub mod Reduce
pub mod Cumulate
pub mod Fault
pub mod FaultText
pub mod FaultOf
-- definitions of crates below, passed on to the crates above
pub use Rattle.cell_core.specs as cell_core
