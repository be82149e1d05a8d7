pub mod FormulaLaws
pub mod StatementLaws
pub mod EndedLaws
pub mod SampleAccepted
pub mod SampleTrees
pub mod Back
pub mod Turns
pub mod LongerTurns
