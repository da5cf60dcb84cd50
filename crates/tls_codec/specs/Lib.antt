-- Each word is found in one of these.
-- For messages of your own: what they stand for, their formats, and the laws that they cite.
pub use Rattle.tls_codec_base.specs.OwnMessages
pub mod Contents
pub mod Calls
pub mod Devices
pub mod Errors
pub mod Registries
pub mod Spellings
