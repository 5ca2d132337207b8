pub mod Choices
pub mod Holders
pub mod Laws
