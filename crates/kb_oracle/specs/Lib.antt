pub mod Answers
pub mod Search
pub mod States
pub mod Laws
