pub mod ProcedureLemmas
pub mod BuiltinLemmas
pub mod CalmLemmas
pub mod AnswerLemmas
