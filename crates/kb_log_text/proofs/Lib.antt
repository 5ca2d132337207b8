pub mod LogLaws
pub mod ReadLaws
