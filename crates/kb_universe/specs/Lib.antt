pub mod Marks
pub mod Faults
pub mod Uses
pub mod Found
