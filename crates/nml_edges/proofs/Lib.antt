pub mod Ways
pub mod Texts
pub mod Slots
pub mod Rules
pub mod Faults
pub mod Params
