pub mod RangeLemmas
pub mod LoopLemmas
