pub mod Fields
pub mod Keys
pub mod Written
pub mod Grow
pub mod Narrow
pub mod Sample
