pub mod Trees
pub mod Seen
