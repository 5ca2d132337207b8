pub mod Queries
pub mod AnswerLaws
pub mod SearchLaws
pub mod ToldLaws
pub mod Larger
