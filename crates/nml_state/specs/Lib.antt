pub mod NamesNone
pub mod RightTypes
pub mod Cells
pub mod IsState
pub mod SeenWrites
pub mod Wrapping
