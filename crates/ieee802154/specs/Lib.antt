pub mod Address
pub mod Control
pub mod Addressing
pub mod Security
pub mod Mac
pub mod RoundTrips
pub mod PanTable
