pub mod Bound
pub mod Chains
pub mod Columns
pub mod Listed
pub mod Writing
pub mod Parts
