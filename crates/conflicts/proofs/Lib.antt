pub mod Laws
pub mod OnePerClass
pub mod Spans
