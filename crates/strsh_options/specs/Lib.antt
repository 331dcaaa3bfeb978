pub mod CommandLine
pub mod Options
pub mod Fault
