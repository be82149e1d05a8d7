pub mod Places
pub mod Keys
pub mod Grouping
pub mod Search
pub mod Alike
pub mod Lined
pub mod Strict
