pub mod Words
pub mod Lines
pub mod Ranges
pub mod Spelled
pub mod Slots
