pub mod Printing
pub mod Lines
pub mod Fields
pub mod Waiting
pub mod Splitting
