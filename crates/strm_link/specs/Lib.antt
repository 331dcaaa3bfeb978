pub mod Fault
pub mod Rule
pub mod Source
pub mod Link
pub mod Passage
pub mod Subsequence
pub mod Laws
