pub mod Frames
pub mod Moves
pub mod Answers
pub mod Placing
pub mod Streaming
