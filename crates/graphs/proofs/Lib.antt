pub mod Search
pub mod Ranks
pub mod Settled
