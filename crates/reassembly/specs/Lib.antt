pub mod Lists
pub mod Slots
pub mod Parts
pub mod Table
pub mod Fresh
pub mod Cover
