pub mod Analysis
pub mod Search
pub mod Solver
pub mod Answer
