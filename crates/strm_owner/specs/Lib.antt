pub mod Hearing
pub mod Rounds
pub mod Serves
