pub mod Searching
pub mod BySlot
pub mod Orders
pub mod Entries
pub mod Flagged
