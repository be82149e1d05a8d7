pub mod Assembled
pub mod Effects
pub mod Gathering
pub mod Pc
pub mod WordBits
