pub mod Counted
pub mod Total
pub mod Sample
