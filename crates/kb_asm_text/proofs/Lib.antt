pub mod WordLaws
pub mod HeadLaws
pub mod EachLaws
pub mod TokenLaws
pub mod SwitchLaws
pub mod SameLines
pub mod TextLaws
mod PlaceLaws
