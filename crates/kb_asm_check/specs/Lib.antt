pub mod Limits
pub mod Walking
pub mod Faults
