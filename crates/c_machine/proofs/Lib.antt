mod Stacks
mod Nodes
