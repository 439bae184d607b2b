pub mod Failing
pub mod Reading
