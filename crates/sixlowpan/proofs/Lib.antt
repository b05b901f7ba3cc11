pub mod NextLaws
pub mod NhcPuts
pub mod NhcTrips
pub mod NhcSpans
pub mod Examples
pub mod FragPuts
pub mod FragTrips
pub mod FragSpans
