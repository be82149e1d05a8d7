pub mod Narrows
pub mod Splits
pub mod Walk
pub mod Whole
