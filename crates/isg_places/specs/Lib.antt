pub mod Constant
pub mod Places
pub mod Spots
pub mod Found
pub mod Sample
