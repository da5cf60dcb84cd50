pub mod Clones
