pub mod Form
pub mod Lexing
pub mod Lexed
pub mod Sample
