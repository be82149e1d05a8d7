pub mod Frames
pub mod Ground
pub mod Steps
