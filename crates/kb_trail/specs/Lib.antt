pub mod Changes
pub mod Trail
