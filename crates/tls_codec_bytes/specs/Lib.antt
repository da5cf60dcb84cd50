pub mod Contents
pub mod Lends
