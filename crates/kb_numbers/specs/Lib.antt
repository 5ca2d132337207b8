pub mod Places
pub mod Pairs
pub mod Members
pub mod Numbers
pub mod Pools
pub mod Types
pub mod Typed
