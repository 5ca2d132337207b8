pub mod MappedLaws
pub mod TurnLaws
