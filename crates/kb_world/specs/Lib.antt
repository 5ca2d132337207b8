pub mod FieldFaults
pub mod Calls
pub mod Reach
pub mod Walks
pub mod Receivers
