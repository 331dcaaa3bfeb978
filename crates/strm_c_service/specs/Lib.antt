pub mod Service
pub mod Written
pub mod Taking
