pub mod CarryLemmas
pub mod ExpectedLemmas
pub mod FieldLemmas
pub mod HandingLemmas
pub mod LineLemmas
pub mod LinkedLemmas
pub mod MoreLemmas
pub mod ReadLemmas
pub mod SectionLemmas
pub mod SoundLemmas
pub mod StepLemmas
pub mod StreamLemmas
pub mod ThereLemmas
mod WorkedExamples
