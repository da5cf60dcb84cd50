pub mod Extensions
pub mod CertificateTypes
pub mod Certificates
pub mod Bodies
pub mod Handshakes
pub mod KeyShares
