pub mod Echoing
