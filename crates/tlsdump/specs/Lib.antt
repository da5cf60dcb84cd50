-- Which types there are, and what is reported about bytes of one.
pub mod Rows
pub mod Kinds
pub mod MlsKinds
pub mod Tls13Kinds
pub mod CtKinds
pub mod Protocols
pub mod Dumps
