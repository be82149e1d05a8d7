pub mod Operator
pub mod Inputs
pub mod Sample
