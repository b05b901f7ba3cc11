pub mod Dispatch
pub mod Next
pub mod Nhc
pub mod NhcExt
pub mod NhcUdp
pub mod Frag
pub mod Key
