pub mod Served
pub mod Serve
pub mod First
pub mod Take
