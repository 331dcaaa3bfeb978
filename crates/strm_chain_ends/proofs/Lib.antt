pub mod FitLemmas
pub mod NextLemmas
pub mod DueLemmas
pub mod FrameLemmas
pub mod CountLemmas
pub mod PlaceLemmas
pub mod QueueLemmas
pub mod CalmLemmas
mod WorkedExamples
mod CircleExamples
pub mod TurnLemmas
pub mod ServingLemmas
pub mod OrderLemmas
pub mod LentLemmas
pub mod TickLemmas
