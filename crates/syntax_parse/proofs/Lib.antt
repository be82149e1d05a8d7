pub mod Few
pub mod Lined
pub mod Passed
pub mod Instances
