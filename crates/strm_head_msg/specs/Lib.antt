pub mod Send
pub mod Take
