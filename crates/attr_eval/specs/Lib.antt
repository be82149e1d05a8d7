pub mod Walks
pub mod Turn
pub mod Run
pub mod Found
pub mod Operand
pub mod Lawful
pub mod Node
pub mod Alone
