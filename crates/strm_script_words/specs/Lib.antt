pub mod Fault
pub mod Words
pub mod Field
pub mod Naming
pub mod Push
pub mod Table
pub mod Arrival
pub mod Service
