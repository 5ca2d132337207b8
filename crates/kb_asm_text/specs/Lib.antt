pub mod Words
pub mod Tokens
pub mod Shapes
pub mod Lines
pub mod Texts
