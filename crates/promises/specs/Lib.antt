pub mod Cuttings
pub mod Runs
pub mod Frames
pub mod Library
pub mod Demands
pub mod Sent
