pub mod Types
pub mod Numbers
pub mod KeptStorages
pub mod LineCells
pub mod Ordered
pub mod Adding
pub mod Walking
pub mod Result
