pub mod Gathering
pub mod Words
pub mod Saying
pub mod SayingParts
