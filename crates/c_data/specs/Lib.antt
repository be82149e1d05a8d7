pub mod Totals
pub mod Sample
