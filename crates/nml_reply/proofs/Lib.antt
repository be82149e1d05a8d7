pub mod Telling
pub mod TextLines
pub mod WordLines
