pub mod SomeRun
pub mod OneOutcome
