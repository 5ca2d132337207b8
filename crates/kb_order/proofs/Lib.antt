pub mod OrderLaws
pub mod RowLaws
pub mod TableLaws
pub mod RankLaws
pub mod TextLaws
pub mod TakingLaws
