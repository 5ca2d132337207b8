pub mod ArrayLaws
pub mod CallLaws
pub mod LandingLaws
pub mod NameLaws
pub mod RunLaws
pub mod Steps
