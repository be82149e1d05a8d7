pub mod Beside
mod Tests
