pub mod Parts
pub mod Entries
pub mod Pool
pub mod Instructions
pub mod Class
pub mod Needs
pub mod Working
pub mod Listings
