pub mod Conditions
pub mod Numbered
