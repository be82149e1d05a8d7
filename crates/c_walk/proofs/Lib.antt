pub mod Loops
pub mod Behind
