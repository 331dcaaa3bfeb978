pub mod ReadLemmas
mod WorkedExamples
