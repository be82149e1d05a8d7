pub mod Lines
pub mod Names
pub mod SampleLines
pub mod Syntaxes
