pub mod Nodes
pub mod Agreement
pub mod Simulation
mod Values
mod Tables
mod Runs
