pub mod Numbers
pub mod Digits
pub mod DigitsValue
pub mod HexadecimalFronts
