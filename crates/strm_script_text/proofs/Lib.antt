pub mod FieldLemmas
pub mod LineLemmas
pub mod PlaceLemmas
pub mod ReadBackLemmas
pub mod RunLemmas
pub mod SpellingLemmas
pub mod WriteLemmas
