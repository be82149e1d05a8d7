pub mod LineWords
pub mod Walking
pub mod SeenLines
pub mod Assembling
