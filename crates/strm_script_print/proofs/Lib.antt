pub mod GatheredLemmas
pub mod LineLemmas
pub mod LinkLemmas
pub mod ReadBackLemmas
pub mod SharingLemmas
pub mod TableLemmas
