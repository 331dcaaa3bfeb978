pub mod Scripts
pub mod Resolve
pub mod Fault
