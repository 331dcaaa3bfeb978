pub mod Bytes
pub mod Text
pub mod Spelling
pub mod Writing
