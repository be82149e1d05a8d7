pub mod Unnamed
pub mod Chosen
pub mod Wholes
