pub mod Note
pub mod Naming
pub mod Found
pub mod Below
pub mod Tallies
