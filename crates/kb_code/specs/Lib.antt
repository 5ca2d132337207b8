pub mod Switches
pub mod Forms
pub mod Names
pub mod Listing
pub mod Reading
pub mod Answers
pub mod Starts
