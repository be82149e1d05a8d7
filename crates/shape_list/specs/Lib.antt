pub mod Body
pub mod Drawn
pub mod Fixed
pub mod Runs
