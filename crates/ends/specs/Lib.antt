pub mod Closing
pub mod Line
