pub mod OneText
pub mod Example
