mod CasePlaces
mod DecidedPlaces
pub mod FieldPlaces
pub mod Tags
mod Telling
