pub mod FrameLemmas
pub mod PieceLemmas
pub mod RestLemmas
pub mod SettlesLemmas
pub mod SlipLemmas
pub mod CalmLemmas
pub mod WorkedExamples
pub mod AnswerLemmas
