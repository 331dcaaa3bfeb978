pub mod NameLemmas
pub mod CloseLemmas
pub mod OutsideLemmas
