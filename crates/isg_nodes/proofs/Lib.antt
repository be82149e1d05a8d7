pub mod Written
pub mod Growing
