pub mod Says
pub mod Items
pub mod Needs
pub mod Entries
