pub mod Numbers
pub mod Bytes
pub mod Messages
pub mod Whole
