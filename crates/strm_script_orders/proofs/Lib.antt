pub mod ChoiceLemmas
pub mod CountLemmas
pub mod PieceLemmas
pub mod FreeLemmas
pub mod LaneLemmas
pub mod PlayLemmas
pub mod TallyLemmas
pub mod TreeLemmas
pub mod WalkLemmas
pub mod WaysLemmas
mod WorkedExamples
