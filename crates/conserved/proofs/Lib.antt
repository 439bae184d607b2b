pub mod Asked
pub mod Composed
pub mod Lent
pub mod Parked
pub mod Settled
pub mod Counted
