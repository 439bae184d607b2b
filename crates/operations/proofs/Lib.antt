pub mod Turns
pub mod Inserting
