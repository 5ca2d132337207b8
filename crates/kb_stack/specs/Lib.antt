pub mod Taken
pub mod Unwritten
