pub mod Lines
pub mod Heard
