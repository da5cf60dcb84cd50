pub mod Names
pub mod Noise
pub mod Median
pub mod Calls
pub mod Figures
