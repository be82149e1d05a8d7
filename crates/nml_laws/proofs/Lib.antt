pub mod OneWord
pub mod OneRun
pub mod ShapeListed
pub mod SampleShapes
