pub mod Bytes
pub mod Text
pub mod Fields
pub mod Waiting
pub mod Filling
