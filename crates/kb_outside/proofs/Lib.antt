pub mod Bytes
pub mod Failing
