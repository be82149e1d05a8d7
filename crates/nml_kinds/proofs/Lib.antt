pub mod Storages
pub mod Orders
pub mod KindLaws
pub mod Blocks
pub mod Expressions
pub mod Rules
pub mod Parts
pub mod Alternatives
