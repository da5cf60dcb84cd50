-- What the RFC says of the text in prose, line by line: mls_tree.notes.
use Rattle.std.specs.Prelude.{ℕ, List, [], ◌∷◌}
use Rattle.tls_presentation.specs.Cut.{lines}

abbrev pub notes_text : List ℕ
notes_text = lines (
    "// What RFC 9420 says of these definitions in prose." ∷
    "" ∷
    "// ---- section 17.1. Numbers without a name are kept, as in each registry." ∷
    "CipherSuite.MLS_128_DHKEMX25519_AES128GCM_SHA256_Ed25519 = 1;" ∷
    "CipherSuite.MLS_128_DHKEMP256_AES128GCM_SHA256_P256 = 2;" ∷
    "CipherSuite.MLS_128_DHKEMX25519_CHACHA20POLY1305_SHA256_Ed25519 = 3;" ∷
    "CipherSuite.MLS_256_DHKEMX448_AES256GCM_SHA512_Ed448 = 4;" ∷
    "CipherSuite.MLS_256_DHKEMP521_AES256GCM_SHA512_P521 = 5;" ∷
    "CipherSuite.MLS_256_DHKEMX448_CHACHA20POLY1305_SHA512_Ed448 = 6;" ∷
    "CipherSuite.MLS_256_DHKEMP384_AES256GCM_SHA384_P384 = 7;" ∷
    "" ∷
    "// ---- section 17.5." ∷
    "CredentialType.basic = 1;" ∷
    "CredentialType.x509 = 2;" ∷
    "" ∷
    "// ---- section 17.3." ∷
    "ExtensionType.application_id = 1;" ∷
    "ExtensionType.ratchet_tree = 2;" ∷
    "ExtensionType.required_capabilities = 3;" ∷
    "ExtensionType.external_pub = 4;" ∷
    "ExtensionType.external_senders = 5;" ∷
    "" ∷
    "// ---- section 17.4." ∷
    "ProposalType.add = 1;" ∷
    "ProposalType.update = 2;" ∷
    "ProposalType.remove = 3;" ∷
    "ProposalType.psk = 4;" ∷
    "ProposalType.reinit = 5;" ∷
    "ProposalType.external_init = 6;" ∷
    "ProposalType.group_context_extensions = 7;" ∷
    "" ∷
    "// What is signed or hashed, and only written: it borrows its parts." ∷
    "SignContent is borrowed;" ∷
    "EncryptContext is borrowed;" ∷
    "LeafNodeTBS is borrowed;" ∷
    "ParentHashInput is borrowed;" ∷
    "KeyPackageTBS is borrowed;" ∷
    [])
