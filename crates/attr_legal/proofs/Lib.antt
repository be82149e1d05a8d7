pub mod Tallies
pub mod Among
pub mod Readings
pub mod Targets
pub mod Nesting
pub mod Weights
pub mod WholeLegal
