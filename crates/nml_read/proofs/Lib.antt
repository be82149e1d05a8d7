pub mod Signs
pub mod SayingRules
pub mod FirstFloat
pub mod ReadBytes
pub mod OneReading
