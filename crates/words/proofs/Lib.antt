pub mod Each
pub mod Numbers
pub mod Keys
pub mod Stores
pub mod Ages
pub mod Chains
pub mod Gates
pub mod Unique
