pub mod Scripts
pub mod Tests
pub mod Fronts
pub mod Writing
pub mod Refusals
