pub mod StepResult
pub mod Effects
pub mod Fault
pub mod Inside
pub mod Step
pub mod Arrive
pub mod TakesEffect
pub mod Polls
