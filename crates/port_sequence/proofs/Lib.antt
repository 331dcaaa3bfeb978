mod CalmLemmas
mod SequenceLemmas
mod WorkedExamples
