pub mod Tally
pub mod Tallies
pub mod Sizes
pub mod Weights
