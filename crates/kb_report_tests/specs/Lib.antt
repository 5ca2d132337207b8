pub mod Ranges
pub mod Tests
