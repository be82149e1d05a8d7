pub mod FirstLine
pub mod Formed
pub mod Known
pub mod Resolved
pub mod SampleSource
