pub mod FaultLaws
pub mod NumberLaws
pub mod OneOrder
pub mod OrderLaws
pub mod SettingLaws
