mod Layouts
pub mod Covered
pub mod Fits
pub mod Kept
pub mod Keys
