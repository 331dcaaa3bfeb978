pub mod LineLemmas
pub mod ValueLemmas
pub mod ReadLemmas
pub mod RowLemmas
mod WorkedExamples
