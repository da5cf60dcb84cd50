pub mod Hex
pub mod Reading
