pub mod TypingFault
pub mod Summary
pub mod Pairs
