pub mod Arq
pub mod Between
pub mod BetweenLaws
pub mod Words
