pub mod Numbers
pub mod Masks
pub mod Lines
pub mod Sample
