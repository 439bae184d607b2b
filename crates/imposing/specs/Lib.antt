pub mod Bounds
pub mod Keeps
pub mod View
