mod Decoders
mod Inside
mod Keying
mod Placing
mod Runs
mod Skipping
pub mod Tagging
pub mod Validating
