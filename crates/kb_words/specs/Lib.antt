pub mod Options
pub mod Orders
pub mod Settings
