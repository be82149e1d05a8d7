pub mod LineFronts
pub mod FirstPlace
pub mod Forming
pub mod Knowing
pub mod Defining
pub mod Resolving
