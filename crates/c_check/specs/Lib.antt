pub mod Note
pub mod Within
pub mod First
