pub mod Conserved
pub mod Settled
pub mod Joined
pub mod Laws
pub mod Examples
