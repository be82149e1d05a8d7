pub mod Turns
pub mod SayingStatements
