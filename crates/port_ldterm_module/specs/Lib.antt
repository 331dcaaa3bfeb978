pub mod Ldterm
pub mod LdtermLaws
pub mod Words
