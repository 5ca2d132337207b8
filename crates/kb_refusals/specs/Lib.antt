pub mod Lines
pub mod Refusals
pub mod StatusNumber
pub mod Texts
