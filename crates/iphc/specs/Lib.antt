pub mod Context
pub mod Iphc
pub mod Emit
pub mod Widths
pub mod Shortest
pub mod Modes
