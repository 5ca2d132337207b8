pub mod Circuit
pub mod Gates
pub mod Words
pub mod Shifts
pub mod Division
pub mod Multiplication
pub mod Meaning
