pub mod Query
pub mod Conditions
pub mod Meaning
pub mod Listing
