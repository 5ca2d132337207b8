pub mod Families
pub mod Turns
pub mod Landings
