pub mod Spaces
pub mod Words
pub mod Parts
pub mod Cuts
pub mod Lengths
pub mod Limits
pub mod Begun
pub mod Settled
