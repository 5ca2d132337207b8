pub mod Cuts
pub mod Numbering
pub mod Op
pub mod Terms
pub mod Walk
