pub mod BeginLaws
pub mod StepLaws
