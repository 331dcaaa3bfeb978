pub mod WholeLemmas
pub mod ReturnLemmas
