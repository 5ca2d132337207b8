pub mod Lists
pub mod Members
pub mod Reaching
pub mod ArraysBelow
pub mod MarkLaws
pub mod FoundMarks
pub mod Asking
