pub mod Under
pub mod LowBits
pub mod Given
pub mod Found
pub mod Steps
