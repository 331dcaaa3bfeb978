pub mod Outcome
pub mod Progress
