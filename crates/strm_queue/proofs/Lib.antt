pub mod ChangeLemmas
pub mod Flushing
pub mod FrontLemmas
pub mod LaneLemmas
pub mod LanesLemmas
pub mod ListLemmas
pub mod OrderLemmas
pub mod PlaceLemmas
pub mod RoomLemmas
pub mod RunLemmas
pub mod StandLemmas
mod WorkedExamples
