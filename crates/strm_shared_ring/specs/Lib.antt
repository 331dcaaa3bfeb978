pub mod Name
pub mod StreamRunName
pub mod Feed
pub mod Ring
pub mod Inlet
pub mod Fault
