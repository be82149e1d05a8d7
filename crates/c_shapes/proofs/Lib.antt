pub mod Grown
pub mod Parts
pub mod Returns
pub mod Outlines
