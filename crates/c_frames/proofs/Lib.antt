pub mod Keeps
pub mod Halts
pub mod Ahead
pub mod Small
