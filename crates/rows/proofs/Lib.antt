pub mod Copying
pub mod InPlace
pub mod Halving
pub mod Shifting
pub mod Adjacent
pub mod Positions
