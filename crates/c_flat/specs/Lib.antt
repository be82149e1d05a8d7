pub mod Written
pub mod Sorts
pub mod Listing
pub mod Sample
