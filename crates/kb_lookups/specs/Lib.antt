pub mod Callees
pub mod Listings
