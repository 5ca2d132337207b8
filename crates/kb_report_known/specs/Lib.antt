pub mod Counts
pub mod Fields
pub mod Finding
pub mod Known
pub mod Listing
pub mod Tables
pub mod Walk
