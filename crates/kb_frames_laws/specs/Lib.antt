pub mod Meant
pub mod Endings
