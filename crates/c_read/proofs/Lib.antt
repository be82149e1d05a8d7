pub mod Signs
pub mod ReadBytes
pub mod OneReading
pub mod Gathered
