-- What tls13.tls says: the definitions, the notes, and the text that they are.
use Rattle.std.specs.Prelude.{List, [], ◌∷◌, codes}
use Rattle.tls_presentation.specs.Definition.{One, Bounded, Range, Width, Ended, Plain, Definition, Alias, Note, CountsRest, FillsRest, Ends, Equals, IsClosed, LeftOut, field, has, is_a, word, counted, value, case, select, enum, struct}
use Rattle.tls_presentation.specs.Meaning.{Text, text_of}
use Rattle.tls13_laws.specs.FirstDefinitions.{content_type_definition, tls_plaintext_definition, tls_inner_plaintext_definition, tls_ciphertext_definition, alert_level_definition, alert_description_definition, alert_definition, handshake_type_definition, handshake_definition, protocol_version_definition, random_definition, cipher_suite_definition, client_hello_definition, server_hello_definition, extension_definition, extension_type_definition, key_share_entry_definition, key_share_client_hello_definition, key_share_hello_retry_request_definition, key_share_server_hello_definition, uncompressed_point_representation_definition, psk_key_exchange_mode_definition, psk_key_exchange_modes_definition, empty_definition, early_data_indication_definition}

abbrev pub psk_identity_definition : Definition
psk_identity_definition = struct
    (Plain (field "opaque" "identity" (Bounded 1 65535)) ∷
    Plain (field "uint32" "obfuscated_ticket_age" One) ∷
    [])
    "PskIdentity"

abbrev pub psk_binder_entry_definition : Definition
psk_binder_entry_definition = Alias (field "opaque" "PskBinderEntry" (Bounded 32 255))

abbrev pub offered_psks_definition : Definition
offered_psks_definition = struct
    (Plain (field "PskIdentity" "identities" (Bounded 7 65535)) ∷
    Plain (field "PskBinderEntry" "binders" (Bounded 33 65535)) ∷
    [])
    "OfferedPsks"

abbrev pub pre_shared_key_extension_definition : Definition
pre_shared_key_extension_definition = struct
    (select "Handshake.msg_type"
    (case "client_hello" (is_a "OfferedPsks" ∷ []) ∷
    case "server_hello" (has "uint16" "selected_identity" One ∷ []) ∷
    [])
    Ended ∷
    [])
    "PreSharedKeyExtension"

abbrev pub supported_versions_definition : Definition
supported_versions_definition = struct
    (select "Handshake.msg_type"
    (case "client_hello" (has "ProtocolVersion" "versions" (Bounded 2 254) ∷ []) ∷
    case "server_hello" (has "ProtocolVersion" "selected_version" One ∷ []) ∷
    [])
    Ended ∷
    [])
    "SupportedVersions"

abbrev pub cookie_definition : Definition
cookie_definition = struct
    (Plain (field "opaque" "cookie" (Bounded 1 65535)) ∷
    [])
    "Cookie"

abbrev pub signature_scheme_definition : Definition
signature_scheme_definition = enum
    (value "rsa_pkcs1_sha256" 1025 ∷
    value "rsa_pkcs1_sha384" 1281 ∷
    value "rsa_pkcs1_sha512" 1537 ∷
    value "ecdsa_secp256r1_sha256" 1027 ∷
    value "ecdsa_secp384r1_sha384" 1283 ∷
    value "ecdsa_secp521r1_sha512" 1539 ∷
    value "rsa_pss_rsae_sha256" 2052 ∷
    value "rsa_pss_rsae_sha384" 2053 ∷
    value "rsa_pss_rsae_sha512" 2054 ∷
    value "ed25519" 2055 ∷
    value "ed448" 2056 ∷
    value "rsa_pss_pss_sha256" 2057 ∷
    value "rsa_pss_pss_sha384" 2058 ∷
    value "rsa_pss_pss_sha512" 2059 ∷
    value "rsa_pkcs1_sha1" 513 ∷
    value "ecdsa_sha1" 515 ∷
    Range (word "obsolete_RESERVED") 0 512 ∷
    value "dsa_sha1_RESERVED" 514 ∷
    Range (word "obsolete_RESERVED") 516 1024 ∷
    value "dsa_sha256_RESERVED" 1026 ∷
    Range (word "obsolete_RESERVED") 1028 1280 ∷
    value "dsa_sha384_RESERVED" 1282 ∷
    Range (word "obsolete_RESERVED") 1284 1536 ∷
    value "dsa_sha512_RESERVED" 1538 ∷
    Range (word "obsolete_RESERVED") 1540 1791 ∷
    Range (word "private_use") 65024 65535 ∷
    Width 65535 ∷
    [])
    "SignatureScheme"

abbrev pub signature_scheme_list_definition : Definition
signature_scheme_list_definition = struct
    (Plain (field "SignatureScheme" "supported_signature_algorithms" (Bounded 2 65534)) ∷
    [])
    "SignatureSchemeList"

abbrev pub named_group_definition : Definition
named_group_definition = enum
    (value "unallocated_RESERVED" 0 ∷
    Range (word "obsolete_RESERVED") 1 22 ∷
    value "secp256r1" 23 ∷
    value "secp384r1" 24 ∷
    value "secp521r1" 25 ∷
    Range (word "obsolete_RESERVED") 26 28 ∷
    value "x25519" 29 ∷
    value "x448" 30 ∷
    value "ffdhe2048" 256 ∷
    value "ffdhe3072" 257 ∷
    value "ffdhe4096" 258 ∷
    value "ffdhe6144" 259 ∷
    value "ffdhe8192" 260 ∷
    Range (word "ffdhe_private_use") 508 511 ∷
    Range (word "ecdhe_private_use") 65024 65279 ∷
    Range (word "obsolete_RESERVED") 65281 65282 ∷
    Width 65535 ∷
    [])
    "NamedGroup"

abbrev pub named_group_list_definition : Definition
named_group_list_definition = struct
    (Plain (field "NamedGroup" "named_group_list" (Bounded 2 65535)) ∷
    [])
    "NamedGroupList"

abbrev pub distinguished_name_definition : Definition
distinguished_name_definition = Alias (field "opaque" "DistinguishedName" (Bounded 1 65535))

abbrev pub certificate_authorities_extension_definition : Definition
certificate_authorities_extension_definition = struct
    (Plain (field "DistinguishedName" "authorities" (Bounded 3 65535)) ∷
    [])
    "CertificateAuthoritiesExtension"

abbrev pub oid_filter_definition : Definition
oid_filter_definition = struct
    (Plain (field "opaque" "certificate_extension_oid" (Bounded 1 255)) ∷
    Plain (field "opaque" "certificate_extension_values" (Bounded 0 65535)) ∷
    [])
    "OIDFilter"

abbrev pub oid_filter_extension_definition : Definition
oid_filter_extension_definition = struct
    (Plain (field "OIDFilter" "filters" (Bounded 0 65535)) ∷
    [])
    "OIDFilterExtension"

abbrev pub post_handshake_auth_definition : Definition
post_handshake_auth_definition = struct
    []
    "PostHandshakeAuth"

abbrev pub encrypted_extensions_definition : Definition
encrypted_extensions_definition = struct
    (Plain (field "Extension" "extensions" (Bounded 0 65535)) ∷
    [])
    "EncryptedExtensions"

abbrev pub certificate_request_definition : Definition
certificate_request_definition = struct
    (Plain (field "opaque" "certificate_request_context" (Bounded 0 255)) ∷
    Plain (field "Extension" "extensions" (Bounded 2 65535)) ∷
    [])
    "CertificateRequest"

abbrev pub certificate_type_definition : Definition
certificate_type_definition = enum
    (value "X509" 0 ∷ value "OpenPGP_RESERVED" 1 ∷ value "RawPublicKey" 2 ∷ Width 255 ∷ [])
    "CertificateType"

abbrev pub certificate_entry_definition : Definition
certificate_entry_definition = struct
    (select "certificate_type"
    (case "RawPublicKey" (has "opaque" "ASN1_subjectPublicKeyInfo" (Bounded 1 16777215) ∷ []) ∷
    case "X509" (has "opaque" "cert_data" (Bounded 1 16777215) ∷ []) ∷
    [])
    Ended ∷
    Plain (field "Extension" "extensions" (Bounded 0 65535)) ∷
    [])
    "CertificateEntry"

abbrev pub certificate_definition : Definition
certificate_definition = struct
    (Plain (field "opaque" "certificate_request_context" (Bounded 0 255)) ∷
    Plain (field "CertificateEntry" "certificate_list" (Bounded 0 16777215)) ∷
    [])
    "Certificate"

abbrev pub certificate_verify_definition : Definition
certificate_verify_definition = struct
    (Plain (field "SignatureScheme" "algorithm" One) ∷
    Plain (field "opaque" "signature" (Bounded 0 65535)) ∷
    [])
    "CertificateVerify"

abbrev pub finished_definition : Definition
finished_definition = struct
    (Plain (field "opaque" "verify_data" (counted "Hash.length")) ∷
    [])
    "Finished"

abbrev pub new_session_ticket_definition : Definition
new_session_ticket_definition = struct
    (Plain (field "uint32" "ticket_lifetime" One) ∷
    Plain (field "uint32" "ticket_age_add" One) ∷
    Plain (field "opaque" "ticket_nonce" (Bounded 0 255)) ∷
    Plain (field "opaque" "ticket" (Bounded 1 65535)) ∷
    Plain (field "Extension" "extensions" (Bounded 0 65534)) ∷
    [])
    "NewSessionTicket"

abbrev pub end_of_early_data_definition : Definition
end_of_early_data_definition = struct
    []
    "EndOfEarlyData"

abbrev pub key_update_request_definition : Definition
key_update_request_definition = enum
    (value "update_not_requested" 0 ∷ value "update_requested" 1 ∷ Width 255 ∷ [])
    "KeyUpdateRequest"

abbrev pub key_update_definition : Definition
key_update_definition = struct
    (Plain (field "KeyUpdateRequest" "request_update" One) ∷
    [])
    "KeyUpdate"

abbrev pub definitions : List Definition
definitions =
    content_type_definition ∷ tls_plaintext_definition ∷ tls_inner_plaintext_definition ∷ tls_ciphertext_definition ∷
    alert_level_definition ∷ alert_description_definition ∷ alert_definition ∷ handshake_type_definition ∷
    handshake_definition ∷ protocol_version_definition ∷ random_definition ∷ cipher_suite_definition ∷
    client_hello_definition ∷ server_hello_definition ∷ extension_definition ∷ extension_type_definition ∷
    key_share_entry_definition ∷ key_share_client_hello_definition ∷ key_share_hello_retry_request_definition ∷ key_share_server_hello_definition ∷
    uncompressed_point_representation_definition ∷ psk_key_exchange_mode_definition ∷ psk_key_exchange_modes_definition ∷ empty_definition ∷
    early_data_indication_definition ∷ psk_identity_definition ∷ psk_binder_entry_definition ∷ offered_psks_definition ∷
    pre_shared_key_extension_definition ∷ supported_versions_definition ∷ cookie_definition ∷ signature_scheme_definition ∷
    signature_scheme_list_definition ∷ named_group_definition ∷ named_group_list_definition ∷ distinguished_name_definition ∷
    certificate_authorities_extension_definition ∷ oid_filter_definition ∷ oid_filter_extension_definition ∷ post_handshake_auth_definition ∷
    encrypted_extensions_definition ∷ certificate_request_definition ∷ certificate_type_definition ∷ certificate_entry_definition ∷
    certificate_definition ∷ certificate_verify_definition ∷ finished_definition ∷ new_session_ticket_definition ∷
    end_of_early_data_definition ∷ key_update_request_definition ∷ key_update_definition ∷
    []

abbrev pub notes : List Note
notes =
    CountsRest (codes "Handshake.length") ∷
    FillsRest (codes "Finished.verify_data") ∷
    Equals (codes "CertificateEntry.certificate_type") (word "X509") ∷
    IsClosed (codes "KeyUpdateRequest") ∷
    Ends (codes "TLSInnerPlaintext.type") (codes "content") ∷
    LeftOut (codes "UncompressedPointRepresentation") ∷
    []

abbrev pub tls13 : Text
tls13 = text_of notes definitions
