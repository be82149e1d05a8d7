pub mod Seen
pub mod Ran
pub mod Ready
pub mod Does
