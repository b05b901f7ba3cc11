pub mod Fields
pub mod Head
pub mod Pieces
pub mod Cut
pub mod Allowed
