-- The fields of messages.
pub mod AlertFields
pub mod CertificateFields
pub mod CertificateRequestFields
pub mod CertificateVerifyFields
pub mod ClientHelloFields
pub mod EncryptedExtensionsFields
pub mod HandshakeFields
pub mod KeyUpdateFields
pub mod NewSessionTicketFields
pub mod ServerHelloFields
pub mod TLSCiphertextFields
pub mod TLSPlaintextFields
