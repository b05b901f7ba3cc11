pub mod Steps
pub mod Puts
pub mod RoundTrip
pub mod Spans
pub mod Ends
pub mod Unique
