pub mod Piece
pub mod Given
pub mod Widths
pub mod Around
