pub mod Flat
pub mod Injective
pub mod InjectiveNotes
pub mod InjectiveStructs
pub mod Saying
