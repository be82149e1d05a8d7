pub mod Highest
pub mod Splits
pub mod Sums
pub mod Coarse
pub mod WholeLegal
