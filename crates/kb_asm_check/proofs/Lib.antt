pub mod BodyLaws
pub mod OneLaws
