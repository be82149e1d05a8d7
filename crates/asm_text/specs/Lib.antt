pub mod Source
pub mod Assembled
pub mod Canonical
pub mod Refused
pub mod Answer
pub mod SampleText
