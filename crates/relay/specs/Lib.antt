pub mod Mesh
pub mod Broadcast
pub mod Headers
