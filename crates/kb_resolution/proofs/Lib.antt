pub mod NameLaws
pub mod FieldLaws
pub mod MethodLaws
pub mod RowLaws
pub mod SelectionLaws
pub mod SignatureLaws
pub mod KeyLaws
pub mod KnownLaws
mod StandingLaws
