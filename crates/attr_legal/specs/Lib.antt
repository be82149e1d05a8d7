pub mod Key
pub mod Tally
pub mod Among
pub mod Target
pub mod Asked
pub mod Nested
