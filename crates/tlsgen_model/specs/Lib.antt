pub mod Layout
pub mod Answered
pub mod Names
pub mod Paths
pub mod Taking
pub mod Types
pub mod Width
pub mod Writable
