pub mod ArrivalLemmas
pub mod FoundLemmas
pub mod TurnLemmas
pub mod NewsLemmas
pub mod WaitLemmas
