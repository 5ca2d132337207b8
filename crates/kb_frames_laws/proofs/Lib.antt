pub mod QueryLaws
pub mod MeaningLaws
pub mod EachLaws
pub mod HeapWrites
pub mod WrittenLaws
pub mod FinalHeaps
pub mod EndingLaws
