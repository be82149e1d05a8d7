pub mod Kept
pub mod Widths
pub mod Parts
