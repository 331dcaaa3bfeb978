pub mod Columns
pub mod Chart
