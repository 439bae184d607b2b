pub mod Same
pub mod Validity
pub mod Continuing
pub mod Conservation
pub mod Restoring
pub mod Computing
pub mod Examples
pub mod Refutations
