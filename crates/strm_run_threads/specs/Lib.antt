pub mod Chunks
pub mod JobSlots
