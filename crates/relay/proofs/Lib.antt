pub mod Puts
pub mod Trips
pub mod Unique
pub mod Parts
pub mod Spans
pub mod Examples
