-- What calls say of bytes, in numbers.
pub mod Statuses
pub mod Outcomes
pub mod Fields
pub mod Elements
pub mod Ends
pub mod Cases
pub mod Decided
