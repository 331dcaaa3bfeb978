pub mod ServedLemmas
pub mod QueueLemmas
pub mod ServeLemmas
pub mod TakeLemmas
pub mod SendingLemmas
