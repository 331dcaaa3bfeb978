pub mod RuleLemmas
pub mod LinkLemmas
pub mod PassageLemmas
pub mod WorkedExamples
