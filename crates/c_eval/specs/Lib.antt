pub mod Laid
pub mod Evaluates
pub mod Running
pub mod Starts
