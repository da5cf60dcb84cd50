pub mod Texts
pub mod View
pub mod Kinds
pub mod Run
pub mod Endings
