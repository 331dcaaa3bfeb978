pub mod Ended
pub mod Left
