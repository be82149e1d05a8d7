pub mod Cells
mod Calls
mod Nodes
pub mod Wrapping
mod Weights
mod Numbers
pub mod Members
mod Tally
mod Lengths
mod Programs
pub mod Small
pub mod Same
