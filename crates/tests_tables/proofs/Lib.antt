pub mod StoreLaws
pub mod PoolLaws
