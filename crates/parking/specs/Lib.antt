pub mod Same
pub mod Parking
