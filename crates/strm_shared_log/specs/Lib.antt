pub mod Opened
pub mod Steps
pub mod Serials
pub mod History
pub mod Log
pub mod Piece
pub mod Outlet
