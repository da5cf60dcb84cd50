-- What is reported about encodings that are read in place.
pub mod Views
