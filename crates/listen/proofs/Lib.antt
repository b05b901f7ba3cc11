pub mod Decimals
pub mod Writing
pub mod Hearing
pub mod Blocks
pub mod Examples
pub mod File
pub mod Promises
pub mod Room
