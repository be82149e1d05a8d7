pub mod SomeDerivation
pub mod Named
pub mod Sizes
pub mod Limits
pub mod Listed
