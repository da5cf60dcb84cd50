-- The fields of messages.
pub mod CommitFields
pub mod FramedContentFields
pub mod GroupContextFields
pub mod GroupInfoFields
pub mod GroupSecretsFields
pub mod KeyPackageFields
pub mod LeafNodeFields
pub mod MLSMessageFields
pub mod PrivateMessageFields
pub mod ProposalFields
pub mod PublicMessageFields
pub mod SenderDataFields
pub mod WelcomeFields
pub mod WireFormat
