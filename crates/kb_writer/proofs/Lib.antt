pub mod Bytes
pub mod InstrLaws
pub mod FileLaws
