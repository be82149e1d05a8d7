pub mod Match
pub mod Bits
pub mod Sample
