-- What the RFC says of the text in prose, line by line: mls.notes.
use Rattle.std.specs.Prelude.{ℕ, List, [], ◌∷◌}
use Rattle.tls_presentation.specs.Cut.{lines}

abbrev pub notes_text : List ℕ
notes_text = lines (
    "// What RFC 9420 says of its framing in prose." ∷
    "" ∷
    "// ---- section 17.2." ∷
    "WireFormat.mls_public_message = 1;" ∷
    "WireFormat.mls_private_message = 2;" ∷
    "WireFormat.mls_welcome = 3;" ∷
    "WireFormat.mls_group_info = 4;" ∷
    "WireFormat.mls_key_package = 5;" ∷
    "" ∷
    "// What is signed, authenticated or hashed, and only written: it borrows its parts." ∷
    "FramedContentTBS is borrowed;" ∷
    "AuthenticatedContentTBM is borrowed;" ∷
    "PrivateContentAAD is borrowed;" ∷
    "SenderDataAAD is borrowed;" ∷
    "ConfirmedTranscriptHashInput is borrowed;" ∷
    "InterimTranscriptHashInput is borrowed;" ∷
    "" ∷
    "// Section 6.3.1: the padding has no length, and is what is left of the plaintext." ∷
    "PrivateMessageContent.padding fills rest with zeros;" ∷
    "PrivateMessageContent.content_type called PrivateContent;" ∷
    "PrivateMessageContent.content_type called content;" ∷
    "" ∷
    "// A tag and what its select has." ∷
    "MLSMessage.wire_format called MLSMessageBody;" ∷
    "MLSMessage.wire_format called body;" ∷
    "FramedContent.content_type called FramedContentBody;" ∷
    "FramedContent.content_type called body;" ∷
    [])
