pub mod Edit
pub mod EditLaws
pub mod Keys
pub mod Screen
pub mod Modes
pub mod Typing
