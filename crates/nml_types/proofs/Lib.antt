pub mod Free
pub mod Refusals
pub mod Late
pub mod Checks
