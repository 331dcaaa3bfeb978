pub mod Fault
pub mod Seat
pub mod Ending
pub mod CallCounts
pub mod Arrivals
pub mod Waiting
