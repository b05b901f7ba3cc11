pub mod Receive
pub mod Steps
pub mod Names
