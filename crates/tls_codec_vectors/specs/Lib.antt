pub mod Devices
pub mod Messages
