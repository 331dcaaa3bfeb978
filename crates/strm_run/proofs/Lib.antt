pub mod EndingLemmas
pub mod FeedsLemmas
pub mod OpeningLemmas
pub mod RunLemmas
pub mod TableLemmas
pub mod ThereLemmas
pub mod StepLemmas
pub mod LinkLemmas
