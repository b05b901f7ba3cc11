pub mod Reading
pub mod Feed
pub mod Runs
