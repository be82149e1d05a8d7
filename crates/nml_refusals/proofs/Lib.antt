pub mod FirstPair
pub mod Alike
pub mod Known
pub mod SomeDerivation
pub mod Summaries
pub mod TreeFaults
pub mod Told
