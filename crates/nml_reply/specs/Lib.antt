pub mod Status
pub mod Reading
pub mod Reply
pub mod Refusals
pub mod Seen
pub mod Told
pub mod Ended
pub mod Sample
