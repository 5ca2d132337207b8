pub mod ChangeLaws
pub mod TrailLaws
pub mod Undoing
