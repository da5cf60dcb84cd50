-- What each type's values say: their parts by the names in the text.
use Rattle.std.specs.Prelude.{ℕ, List, [], ◌∷◌}
use Rattle.tls_codec_grammar.specs.Tree.{Tree, Number, Empty, number_trees, option_plain}
use Rattle.tls_codec_grammar.specs.Grammar.{Direction}
use Rattle.tls_presentation.specs.Definition.{word}
use Rattle.mls_laws.specs.Definitions.{mls}
use Rattle.tls_presentation.specs.Says.{called, says, value_says, number_says, case_says, choice_says}
use Rattle.mls.specs.ContentType.{content_type_plain}
use Rattle.mls.specs.FramedContent.{framed_content_plain}
use Rattle.mls.specs.FramedContentAuthData.{framed_content_auth_data_plain}
use Rattle.mls.specs.FramedContentBody.{framed_content_body_plain}
use Rattle.mls.specs.FramedContentTBS.{framed_content_tbs_plain}
use Rattle.mls.specs.MLSMessageBody.{mls_message_body_plain}
use Rattle.mls.specs.PrivateContent.{private_content_plain}
use Rattle.mls.specs.PrivateMessage.{private_message_plain}
use Rattle.mls.specs.PublicMessage.{public_message_plain}
use Rattle.mls.specs.Sender.{sender_plain}
use Rattle.mls.specs.WireFormat.{wire_format_plain}
use Rattle.mls_group.specs.Commit.{commit_plain}
use Rattle.mls_group.specs.GroupContext.{group_context_plain}
use Rattle.mls_group.specs.GroupInfo.{group_info_plain}
use Rattle.mls_group.specs.Proposal.{proposal_plain}
use Rattle.mls_group.specs.ProtocolVersionMls10.{protocol_version_mls10_plain}
use Rattle.mls_group.specs.Welcome.{welcome_plain}
use Rattle.mls_tree.specs.KeyPackage.{key_package_plain}
use Rattle.tls_codec.specs.Contents.{bytes_of}
use Rattle.mls.specs.declared.authenticated_content.AuthenticatedContent.{AuthenticatedContent}
use Rattle.mls.specs.declared.authenticated_content_tbm.AuthenticatedContentTBM.{AuthenticatedContentTBM}
use Rattle.mls.specs.declared.confirmed_transcript_hash_input.ConfirmedTranscriptHashInput.{ConfirmedTranscriptHashInput}
use Rattle.mls.specs.declared.content_type.ContentType.{ContentType}
use Rattle.mls.specs.declared.framed_content.FramedContent.{FramedContent}
use Rattle.mls.specs.declared.framed_content_auth_data.FramedContentAuthData.{FramedContentAuthData}
use Rattle.mls.specs.declared.framed_content_body.FramedContentBody.{FramedContentBody}
use Rattle.mls.specs.declared.framed_content_tbs.FramedContentTBS.{FramedContentTBS}
use Rattle.mls.specs.declared.interim_transcript_hash_input.InterimTranscriptHashInput.{InterimTranscriptHashInput}
use Rattle.mls.specs.declared.mls_message.MLSMessage.{MLSMessage}
use Rattle.mls.specs.declared.mls_message_body.MLSMessageBody.{MLSMessageBody}
use Rattle.mls.specs.declared.private_content.PrivateContent.{PrivateContent}
use Rattle.mls.specs.declared.private_content_aad.PrivateContentAAD.{PrivateContentAAD}
use Rattle.mls.specs.declared.private_message.PrivateMessage.{PrivateMessage}
use Rattle.mls.specs.declared.private_message_content.PrivateMessageContent.{PrivateMessageContent}
use Rattle.mls.specs.declared.public_message.PublicMessage.{PublicMessage}
use Rattle.mls.specs.declared.sender.Sender.{Sender}
use Rattle.mls.specs.declared.sender_data.SenderData.{SenderData}
use Rattle.mls.specs.declared.sender_data_aad.SenderDataAAD.{SenderDataAAD}
use Rattle.mls.specs.declared.sender_type.SenderType.{SenderType}
use Rattle.mls.specs.declared.wire_format.WireFormat.{WireFormat}
use Rattle.mls.specs.declared.content_type.ContentType.TheVariants.{Application as ContentTypeApplication, Proposal as ContentTypeProposal, Commit as ContentTypeCommit}
use Rattle.mls.specs.declared.framed_content_body.FramedContentBody.TheVariants.{Application as FramedContentBodyApplication, Proposal as FramedContentBodyProposal, Commit as FramedContentBodyCommit}
use Rattle.mls.specs.declared.mls_message_body.MLSMessageBody.TheVariants.{MlsPublicMessage as MLSMessageBodyMlsPublicMessage, MlsPrivateMessage as MLSMessageBodyMlsPrivateMessage, MlsWelcome as MLSMessageBodyMlsWelcome, MlsGroupInfo as MLSMessageBodyMlsGroupInfo, MlsKeyPackage as MLSMessageBodyMlsKeyPackage}
use Rattle.mls.specs.declared.private_content.PrivateContent.TheVariants.{Application as PrivateContentApplication, Proposal as PrivateContentProposal, Commit as PrivateContentCommit}
use Rattle.mls.specs.declared.sender.Sender.TheVariants.{Member as SenderMember, External as SenderExternal, NewMemberCommit as SenderNewMemberCommit, NewMemberProposal as SenderNewMemberProposal}
use Rattle.mls.specs.declared.sender_type.SenderType.TheVariants.{Member as SenderTypeMember, External as SenderTypeExternal, NewMemberProposal as SenderTypeNewMemberProposal, NewMemberCommit as SenderTypeNewMemberCommit}

abbrev pub AuthenticatedContentSays : AuthenticatedContent → Direction → List ℕ → Type 0
AuthenticatedContentSays v = says mls "AuthenticatedContent" Empty (called "wire_format" (wire_format_plain v.wire_format) ∷
    called "content" (framed_content_plain v.content) ∷
    called "auth" (framed_content_auth_data_plain v.auth) ∷
    [])

abbrev pub AuthenticatedContentTBMSays : AuthenticatedContentTBM → Direction → List ℕ → Type 0
AuthenticatedContentTBMSays v = says mls "AuthenticatedContentTBM" Empty (called "content_tbs" (framed_content_tbs_plain v.content_tbs) ∷
    called "auth" (framed_content_auth_data_plain v.auth.now) ∷
    [])

abbrev pub ConfirmedTranscriptHashInputSays : ConfirmedTranscriptHashInput → Direction → List ℕ → Type 0
ConfirmedTranscriptHashInputSays v = says mls "ConfirmedTranscriptHashInput" Empty (called "wire_format" (wire_format_plain v.wire_format.now) ∷
    called "content" (framed_content_plain v.content.now) ∷
    called "signature" (number_trees (bytes_of v.signature.now)) ∷
    [])

abbrev pub ContentTypeSays : ContentType → Direction → List ℕ → Type 0
ContentTypeSays ContentTypeApplication = value_says mls "ContentType" "application"
ContentTypeSays ContentTypeProposal = value_says mls "ContentType" "proposal"
ContentTypeSays ContentTypeCommit = value_says mls "ContentType" "commit"

abbrev pub FramedContentSays : FramedContent → Direction → List ℕ → Type 0
FramedContentSays v = says mls "FramedContent" Empty (called "group_id" (number_trees (bytes_of v.group_id)) ∷
    called "epoch" (Number v.epoch) ∷
    called "sender" (sender_plain v.sender) ∷
    called "authenticated_data" (number_trees (bytes_of v.authenticated_data)) ∷
    called "body" (framed_content_body_plain v.body) ∷
    [])

abbrev pub FramedContentAuthDataSays : Tree → FramedContentAuthData → Direction → List ℕ → Type 0
FramedContentAuthDataSays c v = says mls "FramedContentAuthData" c (called "signature" (number_trees (bytes_of v.signature)) ∷
    called "confirmation_tag" (option_plain (λ v. number_trees (bytes_of v)) v.confirmation_tag) ∷
    [])

abbrev pub FramedContentBodySays : FramedContentBody → Direction → List ℕ → Type 0
FramedContentBodySays (FramedContentBodyApplication a0) = case_says mls "FramedContent" "content_type" (word "application") Empty (called "application_data" (number_trees (bytes_of a0)) ∷
    [])
FramedContentBodySays (FramedContentBodyProposal a0) = case_says mls "FramedContent" "content_type" (word "proposal") Empty (called "proposal" (proposal_plain a0) ∷
    [])
FramedContentBodySays (FramedContentBodyCommit a0) = case_says mls "FramedContent" "content_type" (word "commit") Empty (called "commit" (commit_plain a0) ∷
    [])

abbrev pub FramedContentTBSSays : FramedContentTBS → Direction → List ℕ → Type 0
FramedContentTBSSays v = says mls "FramedContentTBS" Empty (called "version" (protocol_version_mls10_plain v.version.now) ∷
    called "wire_format" (wire_format_plain v.wire_format.now) ∷
    called "content" (framed_content_plain v.content.now) ∷
    called "context" (option_plain group_context_plain v.context.now) ∷
    [])

abbrev pub InterimTranscriptHashInputSays : InterimTranscriptHashInput → Direction → List ℕ → Type 0
InterimTranscriptHashInputSays v = says mls "InterimTranscriptHashInput" Empty (called "confirmation_tag" (number_trees (bytes_of v.confirmation_tag.now)) ∷
    [])

abbrev pub MLSMessageSays : MLSMessage → Direction → List ℕ → Type 0
MLSMessageSays v = says mls "MLSMessage" Empty (called "version" (protocol_version_mls10_plain v.version) ∷
    called "body" (mls_message_body_plain v.body) ∷
    [])

abbrev pub MLSMessageBodySays : MLSMessageBody → Direction → List ℕ → Type 0
MLSMessageBodySays (MLSMessageBodyMlsPublicMessage a0) = case_says mls "MLSMessage" "wire_format" (word "mls_public_message") Empty (called "public_message" (public_message_plain a0) ∷
    [])
MLSMessageBodySays (MLSMessageBodyMlsPrivateMessage a0) = case_says mls "MLSMessage" "wire_format" (word "mls_private_message") Empty (called "private_message" (private_message_plain a0) ∷
    [])
MLSMessageBodySays (MLSMessageBodyMlsWelcome a0) = case_says mls "MLSMessage" "wire_format" (word "mls_welcome") Empty (called "welcome" (welcome_plain a0) ∷
    [])
MLSMessageBodySays (MLSMessageBodyMlsGroupInfo a0) = case_says mls "MLSMessage" "wire_format" (word "mls_group_info") Empty (called "group_info" (group_info_plain a0) ∷
    [])
MLSMessageBodySays (MLSMessageBodyMlsKeyPackage a0) = case_says mls "MLSMessage" "wire_format" (word "mls_key_package") Empty (called "key_package" (key_package_plain a0) ∷
    [])

abbrev pub PrivateContentSays : Tree → PrivateContent → Direction → List ℕ → Type 0
PrivateContentSays c (PrivateContentApplication a0) = choice_says mls "PrivateMessageContent" "PrivateMessage.content_type" (word "application") c (called "application_data" (number_trees (bytes_of a0)) ∷
    [])
PrivateContentSays c (PrivateContentProposal a0) = choice_says mls "PrivateMessageContent" "PrivateMessage.content_type" (word "proposal") c (called "proposal" (proposal_plain a0) ∷
    [])
PrivateContentSays c (PrivateContentCommit a0) = choice_says mls "PrivateMessageContent" "PrivateMessage.content_type" (word "commit") c (called "commit" (commit_plain a0) ∷
    [])

abbrev pub PrivateContentAADSays : PrivateContentAAD → Direction → List ℕ → Type 0
PrivateContentAADSays v = says mls "PrivateContentAAD" Empty (called "group_id" (number_trees (bytes_of v.group_id.now)) ∷
    called "epoch" (Number v.epoch.now) ∷
    called "content_type" (content_type_plain v.content_type.now) ∷
    called "authenticated_data" (number_trees (bytes_of v.authenticated_data.now)) ∷
    [])

abbrev pub PrivateMessageSays : PrivateMessage → Direction → List ℕ → Type 0
PrivateMessageSays v = says mls "PrivateMessage" Empty (called "group_id" (number_trees (bytes_of v.group_id)) ∷
    called "epoch" (Number v.epoch) ∷
    called "content_type" (content_type_plain v.content_type) ∷
    called "authenticated_data" (number_trees (bytes_of v.authenticated_data)) ∷
    called "encrypted_sender_data" (number_trees (bytes_of v.encrypted_sender_data)) ∷
    called "ciphertext" (number_trees (bytes_of v.ciphertext)) ∷
    [])

abbrev pub PrivateMessageContentSays : Tree → PrivateMessageContent → Direction → List ℕ → Type 0
PrivateMessageContentSays c v = says mls "PrivateMessageContent" c (called "content" (private_content_plain v.content) ∷
    called "auth" (framed_content_auth_data_plain v.auth) ∷
    [])

abbrev pub PublicMessageSays : PublicMessage → Direction → List ℕ → Type 0
PublicMessageSays v = says mls "PublicMessage" Empty (called "content" (framed_content_plain v.content) ∷
    called "auth" (framed_content_auth_data_plain v.auth) ∷
    called "membership_tag" (option_plain (λ v. number_trees (bytes_of v)) v.membership_tag) ∷
    [])

abbrev pub SenderSays : Sender → Direction → List ℕ → Type 0
SenderSays (SenderMember a0) = case_says mls "Sender" "sender_type" (word "member") Empty (called "leaf_index" (Number a0) ∷
    [])
SenderSays (SenderExternal a0) = case_says mls "Sender" "sender_type" (word "external") Empty (called "sender_index" (Number a0) ∷
    [])
SenderSays SenderNewMemberCommit = case_says mls "Sender" "sender_type" (word "new_member_commit") Empty []
SenderSays SenderNewMemberProposal = case_says mls "Sender" "sender_type" (word "new_member_proposal") Empty []

abbrev pub SenderDataSays : SenderData → Direction → List ℕ → Type 0
SenderDataSays v = says mls "SenderData" Empty (called "leaf_index" (Number v.leaf_index) ∷
    called "generation" (Number v.generation) ∷
    called "reuse_guard" (number_trees v.reuse_guard) ∷
    [])

abbrev pub SenderDataAADSays : SenderDataAAD → Direction → List ℕ → Type 0
SenderDataAADSays v = says mls "SenderDataAAD" Empty (called "group_id" (number_trees (bytes_of v.group_id.now)) ∷
    called "epoch" (Number v.epoch.now) ∷
    called "content_type" (content_type_plain v.content_type.now) ∷
    [])

abbrev pub SenderTypeSays : SenderType → Direction → List ℕ → Type 0
SenderTypeSays SenderTypeMember = value_says mls "SenderType" "member"
SenderTypeSays SenderTypeExternal = value_says mls "SenderType" "external"
SenderTypeSays SenderTypeNewMemberProposal = value_says mls "SenderType" "new_member_proposal"
SenderTypeSays SenderTypeNewMemberCommit = value_says mls "SenderType" "new_member_commit"

abbrev pub WireFormatSays : WireFormat → Direction → List ℕ → Type 0
WireFormatSays v = number_says mls "WireFormat" v.0
