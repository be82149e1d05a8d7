pub mod Frames
pub mod Steps
pub mod Sample
pub mod Small
