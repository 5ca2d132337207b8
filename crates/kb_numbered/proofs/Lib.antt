pub mod TruthLaws
pub mod SetLaws
pub mod PathSteps
pub mod Renumbering
pub mod PathLaws
pub mod OnceLaws
