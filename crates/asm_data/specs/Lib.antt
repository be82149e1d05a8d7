pub mod Given
pub mod Storages
pub mod Values
pub mod Sample
