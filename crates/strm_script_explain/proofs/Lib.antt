pub mod FieldLemmas
pub mod LineLemmas
mod WorkedExamples
