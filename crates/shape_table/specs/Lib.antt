pub mod Meet
pub mod Least
pub mod Label
pub mod Shapes
