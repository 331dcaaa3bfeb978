pub mod KeptLemmas
pub mod OrderLemmas
pub mod RefusalLemmas
pub mod NothingLemmas
pub mod BeginLemmas
pub mod PollLemmas
pub mod CallLemmas
pub mod ArriveLemmas
pub mod LookLemmas
mod WorkedExamples
