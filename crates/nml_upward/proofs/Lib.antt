pub mod Pieces
pub mod Upward
