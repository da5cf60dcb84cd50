-- What the RFC says of the text in prose, line by line: tls13.notes.
use Rattle.std.specs.Prelude.{ℕ, List, [], ◌∷◌}
use Rattle.tls_presentation.specs.Cut.{lines}

abbrev pub notes_text : List ℕ
notes_text = lines (
    "// What RFC 8446 says of its definitions in prose." ∷
    "" ∷
    "// Section 4: remaining bytes in the message." ∷
    "Handshake.length counts rest;" ∷
    "" ∷
    "// Section 4.4.4: the hash of the cipher suite has as many bytes." ∷
    "Finished.verify_data fills rest;" ∷
    "" ∷
    "// Section 4.4.2: the type of certificates unless the extensions of RFC 7250 agree on another. handshake_by_hand has both." ∷
    "CertificateEntry.certificate_type = X509;" ∷
    "" ∷
    "// Section 4.6.3: a receiver ends the connection at any other value." ∷
    "KeyUpdateRequest is closed;" ∷
    "" ∷
    "// Section 5.4: its zeros have no length; what is decrypted is searched from its end for the type, the first byte that isn't zero." ∷
    "TLSInnerPlaintext.type ends content;" ∷
    "" ∷
    "// Section 4.2.8.2: the length of coordinates is the group's, and the bytes are a key_exchange." ∷
    "UncompressedPointRepresentation left out;" ∷
    [])
