pub mod Numbers
pub mod Counted
pub mod Stands
pub mod Apt
pub mod Found
pub mod Puts
