pub mod Definitions
pub mod Notes
pub mod Says
pub mod Text
