pub mod Cells
pub mod Diagram
pub mod Tables
