pub mod Turns
pub mod Others
