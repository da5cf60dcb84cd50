pub mod Contents
pub mod Shown
