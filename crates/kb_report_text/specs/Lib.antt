pub mod Slots
pub mod Blocks
pub mod Report
pub mod Tables
pub mod Ranges
