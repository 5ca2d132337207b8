pub mod Lookup
pub mod LeftOut
pub mod Tables
