pub mod TakingLemmas
pub mod SendingLemmas
