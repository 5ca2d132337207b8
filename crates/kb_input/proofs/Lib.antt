pub mod ArgumentLaws
pub mod FittingLaws
pub mod KindLaws
pub mod Filling
pub mod Unread
pub mod SeenValues
pub mod InputLaws
