pub mod SentLemmas
pub mod RawLemmas
pub mod CalmLemmas
pub mod AnswerLemmas
pub mod SettlesLemmas
