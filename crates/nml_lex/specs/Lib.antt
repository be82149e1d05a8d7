pub mod Form
pub mod Cut
pub mod Lexed
pub mod Sample
