-- What mls.tls says: the definitions, the notes, and the text that they are.
use Rattle.std.specs.Prelude.{List, [], ◌∷◌, codes}
use Rattle.tls_presentation.specs.Definition.{Numeral, One, Array, Variable, Is, Width, Ended, Plain, Definition, Alias, Note, FillsZeros, Equals, IsBorrowed, IsCalled, field, has, constant, word, counted, value, case, cases_of, select, enum, struct}
use Rattle.tls_presentation.specs.Meaning.{Text, text_over}
use Rattle.mls_group_laws.specs.Definitions.{mls_group}

abbrev pub content_type_definition : Definition
content_type_definition = enum
    (value "reserved" 0 ∷ value "application" 1 ∷ value "proposal" 2 ∷ value "commit" 3 ∷ Width 255 ∷ [])
    "ContentType"

abbrev pub sender_type_definition : Definition
sender_type_definition = enum
    (value "reserved" 0 ∷
    value "member" 1 ∷
    value "external" 2 ∷
    value "new_member_proposal" 3 ∷
    value "new_member_commit" 4 ∷
    Width 255 ∷
    [])
    "SenderType"

abbrev pub sender_definition : Definition
sender_definition = struct
    (Plain (field "SenderType" "sender_type" One) ∷
    select "Sender.sender_type"
    (case "member" (has "uint32" "leaf_index" One ∷ []) ∷
    case "external" (has "uint32" "sender_index" One ∷ []) ∷
    cases_of (word "new_member_commit") ((word "new_member_proposal") ∷ []) [] ∷
    [])
    Ended ∷
    [])
    "Sender"

abbrev pub wire_format_definition : Definition
wire_format_definition = Alias (field "uint16" "WireFormat" One)

abbrev pub framed_content_definition : Definition
framed_content_definition = struct
    (Plain (field "opaque" "group_id" Variable) ∷
    Plain (field "uint64" "epoch" One) ∷
    Plain (field "Sender" "sender" One) ∷
    Plain (field "opaque" "authenticated_data" Variable) ∷
    Plain (field "ContentType" "content_type" One) ∷
    select "FramedContent.content_type"
    (case "application" (has "opaque" "application_data" Variable ∷ []) ∷
    case "proposal" (has "Proposal" "proposal" One ∷ []) ∷
    case "commit" (has "Commit" "commit" One ∷ []) ∷
    [])
    Ended ∷
    [])
    "FramedContent"

abbrev pub mls_message_definition : Definition
mls_message_definition = struct
    (Plain (constant "ProtocolVersion" "version" One (Is (word "mls10"))) ∷
    Plain (field "WireFormat" "wire_format" One) ∷
    select "MLSMessage.wire_format"
    (case "mls_public_message" (has "PublicMessage" "public_message" One ∷ []) ∷
    case "mls_private_message" (has "PrivateMessage" "private_message" One ∷ []) ∷
    case "mls_welcome" (has "Welcome" "welcome" One ∷ []) ∷
    case "mls_group_info" (has "GroupInfo" "group_info" One ∷ []) ∷
    case "mls_key_package" (has "KeyPackage" "key_package" One ∷ []) ∷
    [])
    Ended ∷
    [])
    "MLSMessage"

abbrev pub authenticated_content_definition : Definition
authenticated_content_definition = struct
    (Plain (field "WireFormat" "wire_format" One) ∷
    Plain (field "FramedContent" "content" One) ∷
    Plain (field "FramedContentAuthData" "auth" One) ∷
    [])
    "AuthenticatedContent"

abbrev pub framed_content_tbs_definition : Definition
framed_content_tbs_definition = struct
    (Plain (constant "ProtocolVersion" "version" One (Is (word "mls10"))) ∷
    Plain (field "WireFormat" "wire_format" One) ∷
    Plain (field "FramedContent" "content" One) ∷
    select "FramedContentTBS.content.sender.sender_type"
    (cases_of (word "member") ((word "new_member_commit") ∷ []) (has "GroupContext" "context" One ∷ []) ∷
    cases_of (word "external") ((word "new_member_proposal") ∷ []) [] ∷
    [])
    Ended ∷
    [])
    "FramedContentTBS"

abbrev pub framed_content_auth_data_definition : Definition
framed_content_auth_data_definition = struct
    (Plain (field "opaque" "signature" Variable) ∷
    select "FramedContent.content_type"
    (case "commit" (has "MAC" "confirmation_tag" One ∷ []) ∷
    cases_of (word "application") ((word "proposal") ∷ []) [] ∷
    [])
    Ended ∷
    [])
    "FramedContentAuthData"

abbrev pub public_message_definition : Definition
public_message_definition = struct
    (Plain (field "FramedContent" "content" One) ∷
    Plain (field "FramedContentAuthData" "auth" One) ∷
    select "PublicMessage.content.sender.sender_type"
    (case "member" (has "MAC" "membership_tag" One ∷ []) ∷
    cases_of (word "external") ((word "new_member_commit") ∷ (word "new_member_proposal") ∷ []) [] ∷
    [])
    Ended ∷
    [])
    "PublicMessage"

abbrev pub authenticated_content_tbm_definition : Definition
authenticated_content_tbm_definition = struct
    (Plain (field "FramedContentTBS" "content_tbs" One) ∷
    Plain (field "FramedContentAuthData" "auth" One) ∷
    [])
    "AuthenticatedContentTBM"

abbrev pub private_message_definition : Definition
private_message_definition = struct
    (Plain (field "opaque" "group_id" Variable) ∷
    Plain (field "uint64" "epoch" One) ∷
    Plain (field "ContentType" "content_type" One) ∷
    Plain (field "opaque" "authenticated_data" Variable) ∷
    Plain (field "opaque" "encrypted_sender_data" Variable) ∷
    Plain (field "opaque" "ciphertext" Variable) ∷
    [])
    "PrivateMessage"

abbrev pub private_message_content_definition : Definition
private_message_content_definition = struct
    (select "PrivateMessage.content_type"
    (case "application" (has "opaque" "application_data" Variable ∷ []) ∷
    case "proposal" (has "Proposal" "proposal" One ∷ []) ∷
    case "commit" (has "Commit" "commit" One ∷ []) ∷
    [])
    Ended ∷
    Plain (field "FramedContentAuthData" "auth" One) ∷
    Plain (field "opaque" "padding" (counted "length_of_padding")) ∷
    [])
    "PrivateMessageContent"

abbrev pub private_content_aad_definition : Definition
private_content_aad_definition = struct
    (Plain (field "opaque" "group_id" Variable) ∷
    Plain (field "uint64" "epoch" One) ∷
    Plain (field "ContentType" "content_type" One) ∷
    Plain (field "opaque" "authenticated_data" Variable) ∷
    [])
    "PrivateContentAAD"

abbrev pub sender_data_definition : Definition
sender_data_definition = struct
    (Plain (field "uint32" "leaf_index" One) ∷
    Plain (field "uint32" "generation" One) ∷
    Plain (field "opaque" "reuse_guard" (Array 4)) ∷
    [])
    "SenderData"

abbrev pub sender_data_aad_definition : Definition
sender_data_aad_definition = struct
    (Plain (field "opaque" "group_id" Variable) ∷
    Plain (field "uint64" "epoch" One) ∷
    Plain (field "ContentType" "content_type" One) ∷
    [])
    "SenderDataAAD"

abbrev pub confirmed_transcript_hash_input_definition : Definition
confirmed_transcript_hash_input_definition = struct
    (Plain (field "WireFormat" "wire_format" One) ∷
    Plain (field "FramedContent" "content" One) ∷
    Plain (field "opaque" "signature" Variable) ∷
    [])
    "ConfirmedTranscriptHashInput"

abbrev pub interim_transcript_hash_input_definition : Definition
interim_transcript_hash_input_definition = struct
    (Plain (field "MAC" "confirmation_tag" One) ∷
    [])
    "InterimTranscriptHashInput"

abbrev pub definitions : List Definition
definitions =
    content_type_definition ∷ sender_type_definition ∷ sender_definition ∷ wire_format_definition ∷
    framed_content_definition ∷ mls_message_definition ∷ authenticated_content_definition ∷ framed_content_tbs_definition ∷
    framed_content_auth_data_definition ∷ public_message_definition ∷ authenticated_content_tbm_definition ∷ private_message_definition ∷
    private_message_content_definition ∷ private_content_aad_definition ∷ sender_data_definition ∷ sender_data_aad_definition ∷
    confirmed_transcript_hash_input_definition ∷ interim_transcript_hash_input_definition ∷
    []

abbrev pub notes : List Note
notes =
    Equals (codes "WireFormat.mls_public_message") (Numeral 1) ∷
    Equals (codes "WireFormat.mls_private_message") (Numeral 2) ∷
    Equals (codes "WireFormat.mls_welcome") (Numeral 3) ∷
    Equals (codes "WireFormat.mls_group_info") (Numeral 4) ∷
    Equals (codes "WireFormat.mls_key_package") (Numeral 5) ∷
    IsBorrowed (codes "FramedContentTBS") ∷
    IsBorrowed (codes "AuthenticatedContentTBM") ∷
    IsBorrowed (codes "PrivateContentAAD") ∷
    IsBorrowed (codes "SenderDataAAD") ∷
    IsBorrowed (codes "ConfirmedTranscriptHashInput") ∷
    IsBorrowed (codes "InterimTranscriptHashInput") ∷
    FillsZeros (codes "PrivateMessageContent.padding") ∷
    IsCalled (codes "PrivateMessageContent.content_type") (codes "PrivateContent") ∷
    IsCalled (codes "PrivateMessageContent.content_type") (codes "content") ∷
    IsCalled (codes "MLSMessage.wire_format") (codes "MLSMessageBody") ∷
    IsCalled (codes "MLSMessage.wire_format") (codes "body") ∷
    IsCalled (codes "FramedContent.content_type") (codes "FramedContentBody") ∷
    IsCalled (codes "FramedContent.content_type") (codes "body") ∷
    []

abbrev pub mls : Text
mls = text_over mls_group.names notes definitions
