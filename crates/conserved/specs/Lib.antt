pub mod Acts
pub mod Run
