pub mod File
pub mod Valid
pub mod Measured
pub mod Seen
pub mod Refused
pub mod Parts
pub mod Sample
pub mod SampleFile
