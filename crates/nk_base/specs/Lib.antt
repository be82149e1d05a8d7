pub mod Byte
pub mod Hexadecimal
pub mod Number
pub mod Sample
pub mod Text
pub mod Whole
pub mod WholeSample
