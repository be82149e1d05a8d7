pub mod Shapes
pub mod Sample
