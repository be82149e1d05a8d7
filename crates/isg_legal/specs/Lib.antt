pub mod Coarse
pub mod Known
pub mod Counts
pub mod Sample
