pub mod TextLaws
pub mod ReadBack
pub mod WordLaws
pub mod ReadLaws
pub mod SlotLaws
