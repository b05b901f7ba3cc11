pub mod Face
pub mod Send
