pub mod Gathered
pub mod Instances
pub mod Naming
