pub mod ReadSteps
pub mod WriteSteps
pub mod Lengths
pub mod Examples
pub mod RoundTrips
pub mod Exact
pub mod Tables
