pub mod EachLemmas
pub mod OnceLemmas
pub mod BlockLemmas
