pub mod AnswerLaws
pub mod ClassLaws
pub mod JobLaws
pub mod OneAssembly
pub mod OneListing
pub mod OneReply
pub mod ReadLaws
pub mod ReplayLaws
pub mod SampleLaws
pub mod StageLaws
pub mod TopLaws
pub mod WordsLaws
mod WorkerLaws
