pub mod Glyph
pub mod Summary
pub mod Passed
pub mod Found
