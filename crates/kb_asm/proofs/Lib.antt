pub mod SaysLaws
pub mod EntryLaws
pub mod PoolLaws
pub mod OnceLaws
pub mod CountLaws
pub mod KeptLaws
pub mod WritableLaws
pub mod LoopLaws
pub mod FormLaws
pub mod SoundLaws
pub mod TextLaws
pub mod BodyLaws
pub mod CodeLaws
pub mod ListingLaws
mod MadeLaws
