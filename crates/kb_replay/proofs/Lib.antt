mod Marks
mod Outcomes
mod Runnable
pub mod OneAnswer
pub mod RunEnds
mod Threads
