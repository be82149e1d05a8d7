pub mod Lookups
pub mod StateLaws
pub mod StateSeen
pub mod WrappingLaws
