pub mod Stands
pub mod Filled
pub mod Cells
pub mod Small
