pub mod Sum
pub mod Full
pub mod Rfc8200
pub mod Chain
pub mod Walk
pub mod Expand
pub mod Plain
