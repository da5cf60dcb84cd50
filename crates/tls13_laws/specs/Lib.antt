pub mod Definitions
pub mod FirstDefinitions
pub mod Notes
pub mod Says
pub mod Text
pub mod TextBehind
