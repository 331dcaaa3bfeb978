pub mod Fields
pub mod Replies
pub mod LineBuffer
pub mod Links
pub mod Lines
pub mod ReadBack
pub mod Sharing
