pub mod Guide
pub mod Aad
pub mod Credentials
pub mod Signed
pub mod HelloExtensions
