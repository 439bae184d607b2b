pub mod Quiet
pub mod Waiting
pub mod Laws
pub mod Runs
