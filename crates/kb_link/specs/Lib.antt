pub mod ChainWalks
pub mod Sharing
pub mod Stops
pub mod Members
pub mod Links
pub mod Tables
pub mod Targets
