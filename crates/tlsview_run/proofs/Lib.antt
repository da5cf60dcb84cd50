pub mod Bytes
pub mod Hex
pub mod Paths
