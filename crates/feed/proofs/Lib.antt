pub mod Lists
pub mod Blocks
pub mod Sorting
pub mod States
pub mod Promises
pub mod Refused
