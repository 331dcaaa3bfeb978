pub mod ChoiceLemmas
pub mod FaultLemmas
pub mod RequestLemmas
pub mod ServiceLemmas
pub mod TableLemmas
