-- What is reported about bytes from which no value is made.
pub mod Validated
pub mod Places
pub mod TaggedPlaces
pub mod EnclosedPlaces
pub mod Keys
