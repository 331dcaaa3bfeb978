pub mod Inside
pub mod Kept
pub mod Entry
pub mod Receipt
pub mod Called
pub mod Own
pub mod Taken
pub mod Logs
