pub mod MapLaws
pub mod Book
pub mod Settled
