pub mod Tallied
pub mod Over
pub mod Put
pub mod Sample
