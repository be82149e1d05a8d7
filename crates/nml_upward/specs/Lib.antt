pub mod Piece
pub mod Upward
