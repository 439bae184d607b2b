pub mod Pieces
pub mod View
