pub mod Pool
pub mod Spelling
pub mod Reading
pub mod Answers
