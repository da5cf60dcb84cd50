-- The first definitions of tls13.tls.
use Rattle.std.specs.Prelude.{[], ◌∷◌}
use Rattle.tls_presentation.specs.Definition.{Numeral, One, Array, Bounded, Is, Width, Ended, Plain, Definition, Alias, field, has, is_a, constant, word, counted, value, case, select, enum, struct}

abbrev pub content_type_definition : Definition
content_type_definition = enum
    (value "invalid" 0 ∷
    value "change_cipher_spec" 20 ∷
    value "alert" 21 ∷
    value "handshake" 22 ∷
    value "application_data" 23 ∷
    value "heartbeat" 24 ∷
    Width 255 ∷
    [])
    "ContentType"

abbrev pub tls_plaintext_definition : Definition
tls_plaintext_definition = struct
    (Plain (field "ContentType" "type" One) ∷
    Plain (field "ProtocolVersion" "legacy_record_version" One) ∷
    Plain (field "uint16" "length" One) ∷
    Plain (field "opaque" "fragment" (counted "TLSPlaintext.length")) ∷
    [])
    "TLSPlaintext"

abbrev pub tls_inner_plaintext_definition : Definition
tls_inner_plaintext_definition = struct
    (Plain (field "opaque" "content" (counted "TLSPlaintext.length")) ∷
    Plain (field "ContentType" "type" One) ∷
    Plain (field "uint8" "zeros" (counted "length_of_padding")) ∷
    [])
    "TLSInnerPlaintext"

abbrev pub tls_ciphertext_definition : Definition
tls_ciphertext_definition = struct
    (Plain (constant "ContentType" "opaque_type" One (Is (word "application_data"))) ∷
    Plain (constant "ProtocolVersion" "legacy_record_version" One (Is (Numeral 771))) ∷
    Plain (field "uint16" "length" One) ∷
    Plain (field "opaque" "encrypted_record" (counted "TLSCiphertext.length")) ∷
    [])
    "TLSCiphertext"

abbrev pub alert_level_definition : Definition
alert_level_definition = enum
    (value "warning" 1 ∷ value "fatal" 2 ∷ Width 255 ∷ [])
    "AlertLevel"

abbrev pub alert_description_definition : Definition
alert_description_definition = enum
    (value "close_notify" 0 ∷
    value "unexpected_message" 10 ∷
    value "bad_record_mac" 20 ∷
    value "decryption_failed_RESERVED" 21 ∷
    value "record_overflow" 22 ∷
    value "decompression_failure_RESERVED" 30 ∷
    value "handshake_failure" 40 ∷
    value "no_certificate_RESERVED" 41 ∷
    value "bad_certificate" 42 ∷
    value "unsupported_certificate" 43 ∷
    value "certificate_revoked" 44 ∷
    value "certificate_expired" 45 ∷
    value "certificate_unknown" 46 ∷
    value "illegal_parameter" 47 ∷
    value "unknown_ca" 48 ∷
    value "access_denied" 49 ∷
    value "decode_error" 50 ∷
    value "decrypt_error" 51 ∷
    value "export_restriction_RESERVED" 60 ∷
    value "protocol_version" 70 ∷
    value "insufficient_security" 71 ∷
    value "internal_error" 80 ∷
    value "inappropriate_fallback" 86 ∷
    value "user_canceled" 90 ∷
    value "no_renegotiation_RESERVED" 100 ∷
    value "missing_extension" 109 ∷
    value "unsupported_extension" 110 ∷
    value "certificate_unobtainable_RESERVED" 111 ∷
    value "unrecognized_name" 112 ∷
    value "bad_certificate_status_response" 113 ∷
    value "bad_certificate_hash_value_RESERVED" 114 ∷
    value "unknown_psk_identity" 115 ∷
    value "certificate_required" 116 ∷
    value "no_application_protocol" 120 ∷
    Width 255 ∷
    [])
    "AlertDescription"

abbrev pub alert_definition : Definition
alert_definition = struct
    (Plain (field "AlertLevel" "level" One) ∷
    Plain (field "AlertDescription" "description" One) ∷
    [])
    "Alert"

abbrev pub handshake_type_definition : Definition
handshake_type_definition = enum
    (value "hello_request_RESERVED" 0 ∷
    value "client_hello" 1 ∷
    value "server_hello" 2 ∷
    value "hello_verify_request_RESERVED" 3 ∷
    value "new_session_ticket" 4 ∷
    value "end_of_early_data" 5 ∷
    value "hello_retry_request_RESERVED" 6 ∷
    value "encrypted_extensions" 8 ∷
    value "certificate" 11 ∷
    value "server_key_exchange_RESERVED" 12 ∷
    value "certificate_request" 13 ∷
    value "server_hello_done_RESERVED" 14 ∷
    value "certificate_verify" 15 ∷
    value "client_key_exchange_RESERVED" 16 ∷
    value "finished" 20 ∷
    value "certificate_url_RESERVED" 21 ∷
    value "certificate_status_RESERVED" 22 ∷
    value "supplemental_data_RESERVED" 23 ∷
    value "key_update" 24 ∷
    value "message_hash" 254 ∷
    Width 255 ∷
    [])
    "HandshakeType"

abbrev pub handshake_definition : Definition
handshake_definition = struct
    (Plain (field "HandshakeType" "msg_type" One) ∷
    Plain (field "uint24" "length" One) ∷
    select "Handshake.msg_type"
    (case "client_hello" (is_a "ClientHello" ∷ []) ∷
    case "server_hello" (is_a "ServerHello" ∷ []) ∷
    case "end_of_early_data" (is_a "EndOfEarlyData" ∷ []) ∷
    case "encrypted_extensions" (is_a "EncryptedExtensions" ∷ []) ∷
    case "certificate_request" (is_a "CertificateRequest" ∷ []) ∷
    case "certificate" (is_a "Certificate" ∷ []) ∷
    case "certificate_verify" (is_a "CertificateVerify" ∷ []) ∷
    case "finished" (is_a "Finished" ∷ []) ∷
    case "new_session_ticket" (is_a "NewSessionTicket" ∷ []) ∷
    case "key_update" (is_a "KeyUpdate" ∷ []) ∷
    [])
    Ended ∷
    [])
    "Handshake"

abbrev pub protocol_version_definition : Definition
protocol_version_definition = Alias (field "uint16" "ProtocolVersion" One)

abbrev pub random_definition : Definition
random_definition = Alias (field "opaque" "Random" (Array 32))

abbrev pub cipher_suite_definition : Definition
cipher_suite_definition = Alias (field "uint8" "CipherSuite" (Array 2))

abbrev pub client_hello_definition : Definition
client_hello_definition = struct
    (Plain (constant "ProtocolVersion" "legacy_version" One (Is (Numeral 771))) ∷
    Plain (field "Random" "random" One) ∷
    Plain (field "opaque" "legacy_session_id" (Bounded 0 32)) ∷
    Plain (field "CipherSuite" "cipher_suites" (Bounded 2 65534)) ∷
    Plain (field "opaque" "legacy_compression_methods" (Bounded 1 255)) ∷
    Plain (field "Extension" "extensions" (Bounded 8 65535)) ∷
    [])
    "ClientHello"

abbrev pub server_hello_definition : Definition
server_hello_definition = struct
    (Plain (constant "ProtocolVersion" "legacy_version" One (Is (Numeral 771))) ∷
    Plain (field "Random" "random" One) ∷
    Plain (field "opaque" "legacy_session_id_echo" (Bounded 0 32)) ∷
    Plain (field "CipherSuite" "cipher_suite" One) ∷
    Plain (constant "uint8" "legacy_compression_method" One (Is (Numeral 0))) ∷
    Plain (field "Extension" "extensions" (Bounded 6 65535)) ∷
    [])
    "ServerHello"

abbrev pub extension_definition : Definition
extension_definition = struct
    (Plain (field "ExtensionType" "extension_type" One) ∷
    Plain (field "opaque" "extension_data" (Bounded 0 65535)) ∷
    [])
    "Extension"

abbrev pub extension_type_definition : Definition
extension_type_definition = enum
    (value "server_name" 0 ∷
    value "max_fragment_length" 1 ∷
    value "status_request" 5 ∷
    value "supported_groups" 10 ∷
    value "signature_algorithms" 13 ∷
    value "use_srtp" 14 ∷
    value "heartbeat" 15 ∷
    value "application_layer_protocol_negotiation" 16 ∷
    value "signed_certificate_timestamp" 18 ∷
    value "client_certificate_type" 19 ∷
    value "server_certificate_type" 20 ∷
    value "padding" 21 ∷
    value "RESERVED" 40 ∷
    value "pre_shared_key" 41 ∷
    value "early_data" 42 ∷
    value "supported_versions" 43 ∷
    value "cookie" 44 ∷
    value "psk_key_exchange_modes" 45 ∷
    value "RESERVED" 46 ∷
    value "certificate_authorities" 47 ∷
    value "oid_filters" 48 ∷
    value "post_handshake_auth" 49 ∷
    value "signature_algorithms_cert" 50 ∷
    value "key_share" 51 ∷
    Width 65535 ∷
    [])
    "ExtensionType"

abbrev pub key_share_entry_definition : Definition
key_share_entry_definition = struct
    (Plain (field "NamedGroup" "group" One) ∷
    Plain (field "opaque" "key_exchange" (Bounded 1 65535)) ∷
    [])
    "KeyShareEntry"

abbrev pub key_share_client_hello_definition : Definition
key_share_client_hello_definition = struct
    (Plain (field "KeyShareEntry" "client_shares" (Bounded 0 65535)) ∷
    [])
    "KeyShareClientHello"

abbrev pub key_share_hello_retry_request_definition : Definition
key_share_hello_retry_request_definition = struct
    (Plain (field "NamedGroup" "selected_group" One) ∷
    [])
    "KeyShareHelloRetryRequest"

abbrev pub key_share_server_hello_definition : Definition
key_share_server_hello_definition = struct
    (Plain (field "KeyShareEntry" "server_share" One) ∷
    [])
    "KeyShareServerHello"

abbrev pub uncompressed_point_representation_definition : Definition
uncompressed_point_representation_definition = struct
    (Plain (constant "uint8" "legacy_form" One (Is (Numeral 4))) ∷
    Plain (field "opaque" "X" (counted "coordinate_length")) ∷
    Plain (field "opaque" "Y" (counted "coordinate_length")) ∷
    [])
    "UncompressedPointRepresentation"

abbrev pub psk_key_exchange_mode_definition : Definition
psk_key_exchange_mode_definition = enum
    (value "psk_ke" 0 ∷ value "psk_dhe_ke" 1 ∷ Width 255 ∷ [])
    "PskKeyExchangeMode"

abbrev pub psk_key_exchange_modes_definition : Definition
psk_key_exchange_modes_definition = struct
    (Plain (field "PskKeyExchangeMode" "ke_modes" (Bounded 1 255)) ∷
    [])
    "PskKeyExchangeModes"

abbrev pub empty_definition : Definition
empty_definition = struct
    []
    "Empty"

abbrev pub early_data_indication_definition : Definition
early_data_indication_definition = struct
    (select "Handshake.msg_type"
    (case "new_session_ticket" (has "uint32" "max_early_data_size" One ∷ []) ∷
    case "client_hello" (is_a "Empty" ∷ []) ∷
    case "encrypted_extensions" (is_a "Empty" ∷ []) ∷
    [])
    Ended ∷
    [])
    "EarlyDataIndication"
