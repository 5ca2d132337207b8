pub mod CellLaws
pub mod LineLaws
