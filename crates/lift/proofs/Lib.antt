pub mod Lists
pub mod Lengths
pub mod Sending
pub mod Unique
