pub mod Shown
pub mod Common
pub mod First
