pub mod WorkedExamples
pub mod LinkLemmas
pub mod ArrivalLemmas
pub mod FrameLemmas
