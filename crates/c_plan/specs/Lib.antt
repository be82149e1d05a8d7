pub mod Plan
pub mod Paired
pub mod Sample
