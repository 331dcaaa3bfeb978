pub mod Ends
pub mod Orderly
