pub mod Lanes
pub mod Queue
pub mod Room
pub mod Run
