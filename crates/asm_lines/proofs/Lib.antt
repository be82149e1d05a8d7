pub mod Splits
pub mod Runs
pub mod Held
pub mod Values
pub mod Labeled
