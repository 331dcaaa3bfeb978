pub mod AnswerLemmas
pub mod CalmLemmas
pub mod EndLemmas
pub mod BetweenLemmas
pub mod SettlesLemmas
