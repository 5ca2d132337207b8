pub mod Outcomes
pub mod Replays
pub mod Ends
