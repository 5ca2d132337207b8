pub mod Rules
pub mod Places
pub mod Faults
pub mod Verdicts
pub mod Members
