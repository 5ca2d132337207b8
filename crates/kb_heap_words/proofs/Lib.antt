pub mod Lacking
pub mod NameLaws
pub mod WordLaws
