pub mod Refusal
pub mod Read
pub mod Answers
pub mod Write
pub mod Ipv6
