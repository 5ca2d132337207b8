pub mod TestLaws
pub mod TestTexts
