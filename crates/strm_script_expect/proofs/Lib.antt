pub mod CountingLemmas
pub mod EntryLemmas
mod WorkedExamples
