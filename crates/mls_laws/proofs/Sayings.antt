-- Why each value says so.
use Rattle.std.specs.Prelude.{ℕ, List, [], ◌∷◌}
use Rattle.tls_codec_grammar.specs.Tree.{Tree, Number, Empty, number_trees, option_plain}
use Rattle.tls_codec_grammar.specs.Grammar.{Direction}
use Rattle.tls_presentation.specs.Definition.{word}
use Rattle.mls_laws.specs.Definitions.{mls}
use Rattle.std.proofs.Common.{◌≡◌, refl}
use Rattle.tls_presentation.specs.Says.{value_number}
use Rattle.std.specs.Prelude.{◌↔◌}
use Rattle.tls_presentation.specs.Says.{called}
use Rattle.tls_presentation.proofs.Flat.{same_iff}
use Rattle.tls_presentation.proofs.Saying.{struct_saying, borrowed_saying, number_saying, case_saying, choice_saying}
use Rattle.mls.specs.AuthenticatedContent.{authenticated_content_format, authenticated_content_plain}
use Rattle.mls.specs.AuthenticatedContentTBM.{authenticated_content_tbm_format, authenticated_content_tbm_plain}
use Rattle.mls.specs.ConfirmedTranscriptHashInput.{confirmed_transcript_hash_input_format, confirmed_transcript_hash_input_plain}
use Rattle.mls.specs.ContentType.{content_type_code, content_type_format, content_type_name, content_type_plain}
use Rattle.mls.specs.FramedContent.{framed_content_format, framed_content_plain}
use Rattle.mls.specs.FramedContentAuthData.{framed_content_auth_data_format_for, framed_content_auth_data_plain}
use Rattle.mls.specs.FramedContentBody.{framed_content_body_format, framed_content_body_plain}
use Rattle.mls.specs.FramedContentTBS.{framed_content_tbs_format, framed_content_tbs_plain}
use Rattle.mls.specs.InterimTranscriptHashInput.{interim_transcript_hash_input_format, interim_transcript_hash_input_plain}
use Rattle.mls.specs.MLSMessage.{mls_message_format, mls_message_plain}
use Rattle.mls.specs.MLSMessageBody.{mls_message_body_format, mls_message_body_plain}
use Rattle.mls.specs.PrivateContent.{private_content_format_for, private_content_plain}
use Rattle.mls.specs.PrivateContentAAD.{private_content_aad_format, private_content_aad_plain}
use Rattle.mls.specs.PrivateMessage.{private_message_format, private_message_plain}
use Rattle.mls.specs.PrivateMessageContent.{private_message_content_format_for, private_message_content_plain}
use Rattle.mls.specs.PublicMessage.{public_message_format, public_message_plain}
use Rattle.mls.specs.Sender.{sender_format, sender_plain}
use Rattle.mls.specs.SenderData.{sender_data_format, sender_data_plain}
use Rattle.mls.specs.SenderDataAAD.{sender_data_aad_format, sender_data_aad_plain}
use Rattle.mls.specs.SenderType.{sender_type_code, sender_type_format, sender_type_name, sender_type_plain}
use Rattle.mls.specs.WireFormat.{wire_format_format, wire_format_plain}
use Rattle.mls_group.specs.Commit.{commit_plain}
use Rattle.mls_group.specs.GroupContext.{group_context_plain}
use Rattle.mls_group.specs.GroupInfo.{group_info_plain}
use Rattle.mls_group.specs.Proposal.{proposal_plain}
use Rattle.mls_group.specs.ProtocolVersionMls10.{protocol_version_mls10_plain}
use Rattle.mls_group.specs.Welcome.{welcome_plain}
use Rattle.mls_tree.specs.KeyPackage.{key_package_plain}
use Rattle.tls_codec.specs.Contents.{bytes_of}
use Rattle.mls.specs.declared.authenticated_content.AuthenticatedContent.{AuthenticatedContent}
use Rattle.mls.specs.declared.authenticated_content_tbm.AuthenticatedContentTBM.{AuthenticatedContentTBM}
use Rattle.mls.specs.declared.confirmed_transcript_hash_input.ConfirmedTranscriptHashInput.{ConfirmedTranscriptHashInput}
use Rattle.mls.specs.declared.content_type.ContentType.{ContentType}
use Rattle.mls.specs.declared.framed_content.FramedContent.{FramedContent}
use Rattle.mls.specs.declared.framed_content_auth_data.FramedContentAuthData.{FramedContentAuthData}
use Rattle.mls.specs.declared.framed_content_body.FramedContentBody.{FramedContentBody}
use Rattle.mls.specs.declared.framed_content_tbs.FramedContentTBS.{FramedContentTBS}
use Rattle.mls.specs.declared.interim_transcript_hash_input.InterimTranscriptHashInput.{InterimTranscriptHashInput}
use Rattle.mls.specs.declared.mls_message.MLSMessage.{MLSMessage}
use Rattle.mls.specs.declared.mls_message_body.MLSMessageBody.{MLSMessageBody}
use Rattle.mls.specs.declared.private_content.PrivateContent.{PrivateContent}
use Rattle.mls.specs.declared.private_content_aad.PrivateContentAAD.{PrivateContentAAD}
use Rattle.mls.specs.declared.private_message.PrivateMessage.{PrivateMessage}
use Rattle.mls.specs.declared.private_message_content.PrivateMessageContent.{PrivateMessageContent}
use Rattle.mls.specs.declared.public_message.PublicMessage.{PublicMessage}
use Rattle.mls.specs.declared.sender.Sender.{Sender}
use Rattle.mls.specs.declared.sender_data.SenderData.{SenderData}
use Rattle.mls.specs.declared.sender_data_aad.SenderDataAAD.{SenderDataAAD}
use Rattle.mls.specs.declared.sender_type.SenderType.{SenderType}
use Rattle.mls.specs.declared.wire_format.WireFormat.{WireFormat}
use Rattle.mls.specs.declared.content_type.ContentType.TheVariants.{Application as ContentTypeApplication, Proposal as ContentTypeProposal, Commit as ContentTypeCommit}
use Rattle.mls.specs.declared.framed_content_body.FramedContentBody.TheVariants.{Application as FramedContentBodyApplication, Proposal as FramedContentBodyProposal, Commit as FramedContentBodyCommit}
use Rattle.mls.specs.declared.mls_message_body.MLSMessageBody.TheVariants.{MlsPublicMessage as MLSMessageBodyMlsPublicMessage, MlsPrivateMessage as MLSMessageBodyMlsPrivateMessage, MlsWelcome as MLSMessageBodyMlsWelcome, MlsGroupInfo as MLSMessageBodyMlsGroupInfo, MlsKeyPackage as MLSMessageBodyMlsKeyPackage}
use Rattle.mls.specs.declared.private_content.PrivateContent.TheVariants.{Application as PrivateContentApplication, Proposal as PrivateContentProposal, Commit as PrivateContentCommit}
use Rattle.mls.specs.declared.sender.Sender.TheVariants.{Member as SenderMember, External as SenderExternal, NewMemberCommit as SenderNewMemberCommit, NewMemberProposal as SenderNewMemberProposal}
use Rattle.mls.specs.declared.sender_type.SenderType.TheVariants.{Member as SenderTypeMember, External as SenderTypeExternal, NewMemberProposal as SenderTypeNewMemberProposal, NewMemberCommit as SenderTypeNewMemberCommit}
use Rattle.mls_laws.specs.Says.{AuthenticatedContentSays, AuthenticatedContentTBMSays, ConfirmedTranscriptHashInputSays, ContentTypeSays, FramedContentSays, FramedContentAuthDataSays, FramedContentBodySays, FramedContentTBSSays, InterimTranscriptHashInputSays, MLSMessageSays, MLSMessageBodySays, PrivateContentSays, PrivateContentAADSays, PrivateMessageSays, PrivateMessageContentSays, PublicMessageSays, SenderSays, SenderDataSays, SenderDataAADSays, SenderTypeSays, WireFormatSays}

pub authenticated_content_saying : (v : AuthenticatedContent) (d : Direction) (b : List ℕ) → authenticated_content_format.spells d b (authenticated_content_plain v) ↔ AuthenticatedContentSays v d b
authenticated_content_saying v d b = struct_saying mls "AuthenticatedContent" Empty (called "wire_format" (wire_format_plain v.wire_format) ∷
    called "content" (framed_content_plain v.content) ∷
    called "auth" (framed_content_auth_data_plain v.auth) ∷
    []) d b

pub authenticated_content_tbm_saying : (v : AuthenticatedContentTBM) (d : Direction) (b : List ℕ) → authenticated_content_tbm_format.spells d b (authenticated_content_tbm_plain v) ↔ AuthenticatedContentTBMSays v d b
authenticated_content_tbm_saying v d b = struct_saying mls "AuthenticatedContentTBM" Empty (called "content_tbs" (framed_content_tbs_plain v.content_tbs) ∷
    called "auth" (framed_content_auth_data_plain v.auth.now) ∷
    []) d b

pub confirmed_transcript_hash_input_saying : (v : ConfirmedTranscriptHashInput) (d : Direction) (b : List ℕ) → confirmed_transcript_hash_input_format.spells d b (confirmed_transcript_hash_input_plain v) ↔ ConfirmedTranscriptHashInputSays v d b
confirmed_transcript_hash_input_saying v d b = borrowed_saying mls "ConfirmedTranscriptHashInput" Empty (called "wire_format" (wire_format_plain v.wire_format.now) ∷
    called "content" (framed_content_plain v.content.now) ∷
    called "signature" (number_trees (bytes_of v.signature.now)) ∷
    []) d b

pub content_type_saying : (v : ContentType) (d : Direction) (b : List ℕ) → content_type_format.spells d b (content_type_plain v) ↔ ContentTypeSays v d b
content_type_saying ContentTypeApplication d b = same_iff
content_type_saying ContentTypeProposal d b = same_iff
content_type_saying ContentTypeCommit d b = same_iff

pub content_type_naming : (v : ContentType) → value_number mls "ContentType" (content_type_name v) ≡ content_type_code v
content_type_naming ContentTypeApplication = refl
content_type_naming ContentTypeProposal = refl
content_type_naming ContentTypeCommit = refl

pub framed_content_saying : (v : FramedContent) (d : Direction) (b : List ℕ) → framed_content_format.spells d b (framed_content_plain v) ↔ FramedContentSays v d b
framed_content_saying v d b = struct_saying mls "FramedContent" Empty (called "group_id" (number_trees (bytes_of v.group_id)) ∷
    called "epoch" (Number v.epoch) ∷
    called "sender" (sender_plain v.sender) ∷
    called "authenticated_data" (number_trees (bytes_of v.authenticated_data)) ∷
    called "body" (framed_content_body_plain v.body) ∷
    []) d b

pub framed_content_auth_data_saying : (c : Tree) (v : FramedContentAuthData) (d : Direction) (b : List ℕ) → (framed_content_auth_data_format_for c).spells d b (framed_content_auth_data_plain v) ↔ FramedContentAuthDataSays c v d b
framed_content_auth_data_saying c v d b = struct_saying mls "FramedContentAuthData" c (called "signature" (number_trees (bytes_of v.signature)) ∷
    called "confirmation_tag" (option_plain (λ v. number_trees (bytes_of v)) v.confirmation_tag) ∷
    []) d b

pub framed_content_body_saying : (v : FramedContentBody) (d : Direction) (b : List ℕ) → framed_content_body_format.spells d b (framed_content_body_plain v) ↔ FramedContentBodySays v d b
framed_content_body_saying (FramedContentBodyApplication a0) d b = case_saying mls "FramedContent" "content_type" (word "application") Empty (called "application_data" (number_trees (bytes_of a0)) ∷
    []) d b
framed_content_body_saying (FramedContentBodyProposal a0) d b = case_saying mls "FramedContent" "content_type" (word "proposal") Empty (called "proposal" (proposal_plain a0) ∷
    []) d b
framed_content_body_saying (FramedContentBodyCommit a0) d b = case_saying mls "FramedContent" "content_type" (word "commit") Empty (called "commit" (commit_plain a0) ∷
    []) d b

pub framed_content_tbs_saying : (v : FramedContentTBS) (d : Direction) (b : List ℕ) → framed_content_tbs_format.spells d b (framed_content_tbs_plain v) ↔ FramedContentTBSSays v d b
framed_content_tbs_saying v d b = struct_saying mls "FramedContentTBS" Empty (called "version" (protocol_version_mls10_plain v.version.now) ∷
    called "wire_format" (wire_format_plain v.wire_format.now) ∷
    called "content" (framed_content_plain v.content.now) ∷
    called "context" (option_plain group_context_plain v.context.now) ∷
    []) d b

pub interim_transcript_hash_input_saying : (v : InterimTranscriptHashInput) (d : Direction) (b : List ℕ) → interim_transcript_hash_input_format.spells d b (interim_transcript_hash_input_plain v) ↔ InterimTranscriptHashInputSays v d b
interim_transcript_hash_input_saying v d b = borrowed_saying mls "InterimTranscriptHashInput" Empty (called "confirmation_tag" (number_trees (bytes_of v.confirmation_tag.now)) ∷
    []) d b

pub mls_message_saying : (v : MLSMessage) (d : Direction) (b : List ℕ) → mls_message_format.spells d b (mls_message_plain v) ↔ MLSMessageSays v d b
mls_message_saying v d b = struct_saying mls "MLSMessage" Empty (called "version" (protocol_version_mls10_plain v.version) ∷
    called "body" (mls_message_body_plain v.body) ∷
    []) d b

pub mls_message_body_saying : (v : MLSMessageBody) (d : Direction) (b : List ℕ) → mls_message_body_format.spells d b (mls_message_body_plain v) ↔ MLSMessageBodySays v d b
mls_message_body_saying (MLSMessageBodyMlsPublicMessage a0) d b = case_saying mls "MLSMessage" "wire_format" (word "mls_public_message") Empty (called "public_message" (public_message_plain a0) ∷
    []) d b
mls_message_body_saying (MLSMessageBodyMlsPrivateMessage a0) d b = case_saying mls "MLSMessage" "wire_format" (word "mls_private_message") Empty (called "private_message" (private_message_plain a0) ∷
    []) d b
mls_message_body_saying (MLSMessageBodyMlsWelcome a0) d b = case_saying mls "MLSMessage" "wire_format" (word "mls_welcome") Empty (called "welcome" (welcome_plain a0) ∷
    []) d b
mls_message_body_saying (MLSMessageBodyMlsGroupInfo a0) d b = case_saying mls "MLSMessage" "wire_format" (word "mls_group_info") Empty (called "group_info" (group_info_plain a0) ∷
    []) d b
mls_message_body_saying (MLSMessageBodyMlsKeyPackage a0) d b = case_saying mls "MLSMessage" "wire_format" (word "mls_key_package") Empty (called "key_package" (key_package_plain a0) ∷
    []) d b

pub private_content_saying : (c : Tree) (v : PrivateContent) (d : Direction) (b : List ℕ) → (private_content_format_for c).spells d b (private_content_plain v) ↔ PrivateContentSays c v d b
private_content_saying c (PrivateContentApplication a0) d b = choice_saying mls "PrivateMessageContent" "PrivateMessage.content_type" (word "application") c (called "application_data" (number_trees (bytes_of a0)) ∷
    []) d b
private_content_saying c (PrivateContentProposal a0) d b = choice_saying mls "PrivateMessageContent" "PrivateMessage.content_type" (word "proposal") c (called "proposal" (proposal_plain a0) ∷
    []) d b
private_content_saying c (PrivateContentCommit a0) d b = choice_saying mls "PrivateMessageContent" "PrivateMessage.content_type" (word "commit") c (called "commit" (commit_plain a0) ∷
    []) d b

pub private_content_aad_saying : (v : PrivateContentAAD) (d : Direction) (b : List ℕ) → private_content_aad_format.spells d b (private_content_aad_plain v) ↔ PrivateContentAADSays v d b
private_content_aad_saying v d b = borrowed_saying mls "PrivateContentAAD" Empty (called "group_id" (number_trees (bytes_of v.group_id.now)) ∷
    called "epoch" (Number v.epoch.now) ∷
    called "content_type" (content_type_plain v.content_type.now) ∷
    called "authenticated_data" (number_trees (bytes_of v.authenticated_data.now)) ∷
    []) d b

pub private_message_saying : (v : PrivateMessage) (d : Direction) (b : List ℕ) → private_message_format.spells d b (private_message_plain v) ↔ PrivateMessageSays v d b
private_message_saying v d b = struct_saying mls "PrivateMessage" Empty (called "group_id" (number_trees (bytes_of v.group_id)) ∷
    called "epoch" (Number v.epoch) ∷
    called "content_type" (content_type_plain v.content_type) ∷
    called "authenticated_data" (number_trees (bytes_of v.authenticated_data)) ∷
    called "encrypted_sender_data" (number_trees (bytes_of v.encrypted_sender_data)) ∷
    called "ciphertext" (number_trees (bytes_of v.ciphertext)) ∷
    []) d b

pub private_message_content_saying : (c : Tree) (v : PrivateMessageContent) (d : Direction) (b : List ℕ) → (private_message_content_format_for c).spells d b (private_message_content_plain v) ↔ PrivateMessageContentSays c v d b
private_message_content_saying c v d b = struct_saying mls "PrivateMessageContent" c (called "content" (private_content_plain v.content) ∷
    called "auth" (framed_content_auth_data_plain v.auth) ∷
    []) d b

pub public_message_saying : (v : PublicMessage) (d : Direction) (b : List ℕ) → public_message_format.spells d b (public_message_plain v) ↔ PublicMessageSays v d b
public_message_saying v d b = struct_saying mls "PublicMessage" Empty (called "content" (framed_content_plain v.content) ∷
    called "auth" (framed_content_auth_data_plain v.auth) ∷
    called "membership_tag" (option_plain (λ v. number_trees (bytes_of v)) v.membership_tag) ∷
    []) d b

pub sender_saying : (v : Sender) (d : Direction) (b : List ℕ) → sender_format.spells d b (sender_plain v) ↔ SenderSays v d b
sender_saying (SenderMember a0) d b = case_saying mls "Sender" "sender_type" (word "member") Empty (called "leaf_index" (Number a0) ∷
    []) d b
sender_saying (SenderExternal a0) d b = case_saying mls "Sender" "sender_type" (word "external") Empty (called "sender_index" (Number a0) ∷
    []) d b
sender_saying SenderNewMemberCommit d b = case_saying mls "Sender" "sender_type" (word "new_member_commit") Empty [] d b
sender_saying SenderNewMemberProposal d b = case_saying mls "Sender" "sender_type" (word "new_member_proposal") Empty [] d b

pub sender_data_saying : (v : SenderData) (d : Direction) (b : List ℕ) → sender_data_format.spells d b (sender_data_plain v) ↔ SenderDataSays v d b
sender_data_saying v d b = struct_saying mls "SenderData" Empty (called "leaf_index" (Number v.leaf_index) ∷
    called "generation" (Number v.generation) ∷
    called "reuse_guard" (number_trees v.reuse_guard) ∷
    []) d b

pub sender_data_aad_saying : (v : SenderDataAAD) (d : Direction) (b : List ℕ) → sender_data_aad_format.spells d b (sender_data_aad_plain v) ↔ SenderDataAADSays v d b
sender_data_aad_saying v d b = borrowed_saying mls "SenderDataAAD" Empty (called "group_id" (number_trees (bytes_of v.group_id.now)) ∷
    called "epoch" (Number v.epoch.now) ∷
    called "content_type" (content_type_plain v.content_type.now) ∷
    []) d b

pub sender_type_saying : (v : SenderType) (d : Direction) (b : List ℕ) → sender_type_format.spells d b (sender_type_plain v) ↔ SenderTypeSays v d b
sender_type_saying SenderTypeMember d b = same_iff
sender_type_saying SenderTypeExternal d b = same_iff
sender_type_saying SenderTypeNewMemberProposal d b = same_iff
sender_type_saying SenderTypeNewMemberCommit d b = same_iff

pub sender_type_naming : (v : SenderType) → value_number mls "SenderType" (sender_type_name v) ≡ sender_type_code v
sender_type_naming SenderTypeMember = refl
sender_type_naming SenderTypeExternal = refl
sender_type_naming SenderTypeNewMemberProposal = refl
sender_type_naming SenderTypeNewMemberCommit = refl

pub wire_format_saying : (v : WireFormat) (d : Direction) (b : List ℕ) → wire_format_format.spells d b (wire_format_plain v) ↔ WireFormatSays v d b
wire_format_saying v d b = number_saying mls "WireFormat" v.0 d b
