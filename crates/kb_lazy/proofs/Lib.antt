pub mod Exactness
pub mod OneTypes
pub mod AlternativeLaws
pub mod TakesLaws
pub mod ObjectLaws
pub mod FitLaws
pub mod DepthLaws
pub mod NewLaws
