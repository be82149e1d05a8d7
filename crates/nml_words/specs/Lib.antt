pub mod Span
pub mod Words
