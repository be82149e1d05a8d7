pub mod Going
pub mod Short
pub mod Rename
