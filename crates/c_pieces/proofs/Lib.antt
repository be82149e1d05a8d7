pub mod Behind
pub mod Parts
pub mod Arguments
pub mod Arms
