pub mod First
pub mod Small
pub mod Alone
pub mod Taken
