pub mod Reading
pub mod Owners
pub mod Bindings
pub mod Decoded
