pub mod Zipped
pub mod Steps
pub mod Initial
pub mod Whole
