pub mod Simulator
pub mod Decoded
