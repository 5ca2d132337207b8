pub mod Numbers
pub mod Pieces
pub mod Instructions
pub mod Files
