-- Why each value says so.
use Rattle.std.specs.Prelude.{ℕ, List, [], ◌∷◌}
use Rattle.tls_codec_grammar.specs.Tree.{Tree, Number, Empty, trees, number_trees}
use Rattle.tls_codec_grammar.specs.Grammar.{Direction}
use Rattle.tls_presentation.specs.Definition.{word}
use Rattle.tls13_laws.specs.Definitions.{tls13}
use Rattle.std.proofs.Common.{◌≡◌, refl}
use Rattle.tls_presentation.specs.Says.{value_number}
use Rattle.std.specs.Prelude.{◌↔◌}
use Rattle.tls_presentation.specs.Says.{called}
use Rattle.tls_presentation.proofs.Flat.{same_iff}
use Rattle.tls_presentation.proofs.Saying.{struct_saying, number_saying, case_saying, choice_saying}
use Rattle.tls13.specs.Alert.{alert_format, alert_plain}
use Rattle.tls13.specs.AlertDescription.{alert_description_format, alert_description_plain}
use Rattle.tls13.specs.AlertLevel.{alert_level_format, alert_level_plain}
use Rattle.tls13.specs.Certificate.{certificate_format, certificate_plain}
use Rattle.tls13.specs.CertificateAuthoritiesExtension.{certificate_authorities_extension_format, certificate_authorities_extension_plain}
use Rattle.tls13.specs.CertificateEntry.{certificate_entry_format, certificate_entry_plain}
use Rattle.tls13.specs.CertificateRequest.{certificate_request_format, certificate_request_plain}
use Rattle.tls13.specs.CertificateType.{certificate_type_code, certificate_type_format, certificate_type_name, certificate_type_plain}
use Rattle.tls13.specs.CertificateVerify.{certificate_verify_format, certificate_verify_plain}
use Rattle.tls13.specs.ClientHello.{client_hello_format, client_hello_plain}
use Rattle.tls13.specs.ContentType.{content_type_format, content_type_plain}
use Rattle.tls13.specs.ContentTypeApplicationData.{content_type_application_data_format, content_type_application_data_plain}
use Rattle.tls13.specs.Cookie.{cookie_format, cookie_plain}
use Rattle.tls13.specs.EarlyDataIndication.{early_data_indication_format_for, early_data_indication_plain}
use Rattle.tls13.specs.EmptyType.{empty_type_format, empty_type_plain}
use Rattle.tls13.specs.EncryptedExtensions.{encrypted_extensions_format, encrypted_extensions_plain}
use Rattle.tls13.specs.EndOfEarlyData.{end_of_early_data_format, end_of_early_data_plain}
use Rattle.tls13.specs.Extension.{extension_format, extension_plain}
use Rattle.tls13.specs.ExtensionType.{extension_type_format, extension_type_plain}
use Rattle.tls13.specs.Handshake.{handshake_format, handshake_plain}
use Rattle.tls13.specs.HandshakeType.{handshake_type_code, handshake_type_format, handshake_type_name, handshake_type_plain}
use Rattle.tls13.specs.KeyShareClientHello.{key_share_client_hello_format, key_share_client_hello_plain}
use Rattle.tls13.specs.KeyShareEntry.{key_share_entry_format, key_share_entry_plain}
use Rattle.tls13.specs.KeyShareHelloRetryRequest.{key_share_hello_retry_request_format, key_share_hello_retry_request_plain}
use Rattle.tls13.specs.KeyShareServerHello.{key_share_server_hello_format, key_share_server_hello_plain}
use Rattle.tls13.specs.KeyUpdate.{key_update_format, key_update_plain}
use Rattle.tls13.specs.KeyUpdateRequest.{key_update_request_code, key_update_request_format, key_update_request_name, key_update_request_plain}
use Rattle.tls13.specs.LegacyCompressionMethodX00.{legacy_compression_method_x00_format, legacy_compression_method_x00_plain}
use Rattle.tls13.specs.NamedGroup.{named_group_format, named_group_plain}
use Rattle.tls13.specs.NamedGroupList.{named_group_list_format, named_group_list_plain}
use Rattle.tls13.specs.NewSessionTicket.{new_session_ticket_format, new_session_ticket_plain}
use Rattle.tls13.specs.OIDFilter.{oid_filter_format, oid_filter_plain}
use Rattle.tls13.specs.OIDFilterExtension.{oid_filter_extension_format, oid_filter_extension_plain}
use Rattle.tls13.specs.OfferedPsks.{offered_psks_format, offered_psks_plain}
use Rattle.tls13.specs.PostHandshakeAuth.{post_handshake_auth_format, post_handshake_auth_plain}
use Rattle.tls13.specs.PreSharedKeyExtension.{pre_shared_key_extension_format_for, pre_shared_key_extension_plain}
use Rattle.tls13.specs.ProtocolVersionX0303.{protocol_version_x0303_format, protocol_version_x0303_plain}
use Rattle.tls13.specs.PskIdentity.{psk_identity_format, psk_identity_plain}
use Rattle.tls13.specs.PskKeyExchangeMode.{psk_key_exchange_mode_format, psk_key_exchange_mode_plain}
use Rattle.tls13.specs.PskKeyExchangeModes.{psk_key_exchange_modes_format, psk_key_exchange_modes_plain}
use Rattle.tls13.specs.ServerHello.{server_hello_format, server_hello_plain}
use Rattle.tls13.specs.SignatureScheme.{signature_scheme_format, signature_scheme_plain}
use Rattle.tls13.specs.SignatureSchemeList.{signature_scheme_list_format, signature_scheme_list_plain}
use Rattle.tls13.specs.SupportedVersions.{supported_versions_format_for, supported_versions_plain}
use Rattle.tls13.specs.TLSCiphertext.{tls_ciphertext_format, tls_ciphertext_plain}
use Rattle.tls13.specs.TLSPlaintext.{tls_plaintext_format, tls_plaintext_plain}
use Rattle.tls_codec.specs.Contents.{elements_of, fixed_bytes_of}
use Rattle.tls13.specs.declared.alert.Alert.{Alert}
use Rattle.tls13.specs.declared.alert_description.AlertDescription.{AlertDescription}
use Rattle.tls13.specs.declared.alert_level.AlertLevel.{AlertLevel}
use Rattle.tls13.specs.declared.certificate.Certificate.{Certificate}
use Rattle.tls13.specs.declared.certificate_authorities_extension.CertificateAuthoritiesExtension.{CertificateAuthoritiesExtension}
use Rattle.tls13.specs.declared.certificate_entry.CertificateEntry.{CertificateEntry}
use Rattle.tls13.specs.declared.certificate_request.CertificateRequest.{CertificateRequest}
use Rattle.tls13.specs.declared.certificate_type.CertificateType.{CertificateType}
use Rattle.tls13.specs.declared.certificate_verify.CertificateVerify.{CertificateVerify}
use Rattle.tls13.specs.declared.client_hello.ClientHello.{ClientHello}
use Rattle.tls13.specs.declared.content_type.ContentType.{ContentType}
use Rattle.tls13.specs.declared.content_type_application_data.ContentTypeApplicationData.{ContentTypeApplicationData}
use Rattle.tls13.specs.declared.cookie.Cookie.{Cookie}
use Rattle.tls13.specs.declared.early_data_indication.EarlyDataIndication.{EarlyDataIndication}
use Rattle.tls13.specs.declared.empty_type.EmptyType.{EmptyType}
use Rattle.tls13.specs.declared.encrypted_extensions.EncryptedExtensions.{EncryptedExtensions}
use Rattle.tls13.specs.declared.end_of_early_data.EndOfEarlyData.{EndOfEarlyData}
use Rattle.tls13.specs.declared.extension.Extension.{Extension}
use Rattle.tls13.specs.declared.extension_type.ExtensionType.{ExtensionType}
use Rattle.tls13.specs.declared.handshake.Handshake.{Handshake}
use Rattle.tls13.specs.declared.handshake_type.HandshakeType.{HandshakeType}
use Rattle.tls13.specs.declared.key_share_client_hello.KeyShareClientHello.{KeyShareClientHello}
use Rattle.tls13.specs.declared.key_share_entry.KeyShareEntry.{KeyShareEntry}
use Rattle.tls13.specs.declared.key_share_hello_retry_request.KeyShareHelloRetryRequest.{KeyShareHelloRetryRequest}
use Rattle.tls13.specs.declared.key_share_server_hello.KeyShareServerHello.{KeyShareServerHello}
use Rattle.tls13.specs.declared.key_update.KeyUpdate.{KeyUpdate}
use Rattle.tls13.specs.declared.key_update_request.KeyUpdateRequest.{KeyUpdateRequest}
use Rattle.tls13.specs.declared.legacy_compression_method_x00.LegacyCompressionMethodX00.{LegacyCompressionMethodX00}
use Rattle.tls13.specs.declared.named_group.NamedGroup.{NamedGroup}
use Rattle.tls13.specs.declared.named_group_list.NamedGroupList.{NamedGroupList}
use Rattle.tls13.specs.declared.new_session_ticket.NewSessionTicket.{NewSessionTicket}
use Rattle.tls13.specs.declared.oid_filter.OIDFilter.{OIDFilter}
use Rattle.tls13.specs.declared.oid_filter_extension.OIDFilterExtension.{OIDFilterExtension}
use Rattle.tls13.specs.declared.offered_psks.OfferedPsks.{OfferedPsks}
use Rattle.tls13.specs.declared.post_handshake_auth.PostHandshakeAuth.{PostHandshakeAuth}
use Rattle.tls13.specs.declared.pre_shared_key_extension.PreSharedKeyExtension.{PreSharedKeyExtension}
use Rattle.tls13.specs.declared.protocol_version_x0303.ProtocolVersionX0303.{ProtocolVersionX0303}
use Rattle.tls13.specs.declared.psk_identity.PskIdentity.{PskIdentity}
use Rattle.tls13.specs.declared.psk_key_exchange_mode.PskKeyExchangeMode.{PskKeyExchangeMode}
use Rattle.tls13.specs.declared.psk_key_exchange_modes.PskKeyExchangeModes.{PskKeyExchangeModes}
use Rattle.tls13.specs.declared.server_hello.ServerHello.{ServerHello}
use Rattle.tls13.specs.declared.signature_scheme.SignatureScheme.{SignatureScheme}
use Rattle.tls13.specs.declared.signature_scheme_list.SignatureSchemeList.{SignatureSchemeList}
use Rattle.tls13.specs.declared.supported_versions.SupportedVersions.{SupportedVersions}
use Rattle.tls13.specs.declared.tls_ciphertext.TLSCiphertext.{TLSCiphertext}
use Rattle.tls13.specs.declared.tls_plaintext.TLSPlaintext.{TLSPlaintext}
use Rattle.tls13.specs.declared.certificate_type.CertificateType.TheVariants.{X509 as CertificateTypeX509, OpenPGPReserved as CertificateTypeOpenPGPReserved, RawPublicKey as CertificateTypeRawPublicKey}
use Rattle.tls13.specs.declared.early_data_indication.EarlyDataIndication.TheVariants.{NewSessionTicket as EarlyDataIndicationNewSessionTicket, ClientHello as EarlyDataIndicationClientHello, EncryptedExtensions as EarlyDataIndicationEncryptedExtensions}
use Rattle.tls13.specs.declared.handshake.Handshake.TheVariants.{ClientHello as HandshakeClientHello, ServerHello as HandshakeServerHello, EndOfEarlyData as HandshakeEndOfEarlyData, EncryptedExtensions as HandshakeEncryptedExtensions, CertificateRequest as HandshakeCertificateRequest, Certificate as HandshakeCertificate, CertificateVerify as HandshakeCertificateVerify, Finished as HandshakeFinished, NewSessionTicket as HandshakeNewSessionTicket, KeyUpdate as HandshakeKeyUpdate}
use Rattle.tls13.specs.declared.handshake_type.HandshakeType.TheVariants.{HelloRequestReserved as HandshakeTypeHelloRequestReserved, ClientHello as HandshakeTypeClientHello, ServerHello as HandshakeTypeServerHello, HelloVerifyRequestReserved as HandshakeTypeHelloVerifyRequestReserved, NewSessionTicket as HandshakeTypeNewSessionTicket, EndOfEarlyData as HandshakeTypeEndOfEarlyData, HelloRetryRequestReserved as HandshakeTypeHelloRetryRequestReserved, EncryptedExtensions as HandshakeTypeEncryptedExtensions, Certificate as HandshakeTypeCertificate, ServerKeyExchangeReserved as HandshakeTypeServerKeyExchangeReserved, CertificateRequest as HandshakeTypeCertificateRequest, ServerHelloDoneReserved as HandshakeTypeServerHelloDoneReserved, CertificateVerify as HandshakeTypeCertificateVerify, ClientKeyExchangeReserved as HandshakeTypeClientKeyExchangeReserved, Finished as HandshakeTypeFinished, CertificateUrlReserved as HandshakeTypeCertificateUrlReserved, CertificateStatusReserved as HandshakeTypeCertificateStatusReserved, SupplementalDataReserved as HandshakeTypeSupplementalDataReserved, KeyUpdate as HandshakeTypeKeyUpdate, MessageHash as HandshakeTypeMessageHash}
use Rattle.tls13.specs.declared.key_update_request.KeyUpdateRequest.TheVariants.{UpdateNotRequested as KeyUpdateRequestUpdateNotRequested, UpdateRequested as KeyUpdateRequestUpdateRequested}
use Rattle.tls13.specs.declared.pre_shared_key_extension.PreSharedKeyExtension.TheVariants.{ClientHello as PreSharedKeyExtensionClientHello, ServerHello as PreSharedKeyExtensionServerHello}
use Rattle.tls13.specs.declared.supported_versions.SupportedVersions.TheVariants.{ClientHello as SupportedVersionsClientHello, ServerHello as SupportedVersionsServerHello}
use Rattle.tls13_laws.specs.Says.{AlertSays, AlertDescriptionSays, AlertLevelSays, CertificateSays, CertificateAuthoritiesExtensionSays, CertificateEntrySays, CertificateRequestSays, CertificateTypeSays, CertificateVerifySays, ClientHelloSays, ContentTypeSays, ContentTypeApplicationDataSays, CookieSays, EarlyDataIndicationSays, EmptyTypeSays, EncryptedExtensionsSays, EndOfEarlyDataSays, ExtensionSays, ExtensionTypeSays, HandshakeSays, HandshakeTypeSays, KeyShareClientHelloSays, KeyShareEntrySays, KeyShareHelloRetryRequestSays, KeyShareServerHelloSays, KeyUpdateSays, KeyUpdateRequestSays, LegacyCompressionMethodX00Says, NamedGroupSays, NamedGroupListSays, NewSessionTicketSays, OIDFilterSays, OIDFilterExtensionSays, OfferedPsksSays, PostHandshakeAuthSays, PreSharedKeyExtensionSays, ProtocolVersionX0303Says, PskIdentitySays, PskKeyExchangeModeSays, PskKeyExchangeModesSays, ServerHelloSays, SignatureSchemeSays, SignatureSchemeListSays, SupportedVersionsSays, TLSCiphertextSays, TLSPlaintextSays}

pub alert_saying : (v : Alert) (d : Direction) (b : List ℕ) → alert_format.spells d b (alert_plain v) ↔ AlertSays v d b
alert_saying v d b = struct_saying tls13 "Alert" Empty (called "level" (alert_level_plain v.level) ∷
    called "description" (alert_description_plain v.description) ∷
    []) d b

pub alert_description_saying : (v : AlertDescription) (d : Direction) (b : List ℕ) → alert_description_format.spells d b (alert_description_plain v) ↔ AlertDescriptionSays v d b
alert_description_saying v d b = number_saying tls13 "AlertDescription" v.0 d b

pub alert_level_saying : (v : AlertLevel) (d : Direction) (b : List ℕ) → alert_level_format.spells d b (alert_level_plain v) ↔ AlertLevelSays v d b
alert_level_saying v d b = number_saying tls13 "AlertLevel" v.0 d b

pub certificate_saying : (v : Certificate) (d : Direction) (b : List ℕ) → certificate_format.spells d b (certificate_plain v) ↔ CertificateSays v d b
certificate_saying v d b = struct_saying tls13 "Certificate" Empty (called "certificate_request_context" (number_trees (fixed_bytes_of v.certificate_request_context)) ∷
    called "certificate_list" (trees certificate_entry_plain (elements_of v.certificate_list)) ∷
    []) d b

pub certificate_authorities_extension_saying : (v : CertificateAuthoritiesExtension) (d : Direction) (b : List ℕ) → certificate_authorities_extension_format.spells d b (certificate_authorities_extension_plain v) ↔ CertificateAuthoritiesExtensionSays v d b
certificate_authorities_extension_saying v d b = struct_saying tls13 "CertificateAuthoritiesExtension" Empty (called "authorities" (trees (λ v. number_trees (fixed_bytes_of v)) (elements_of v.authorities)) ∷
    []) d b

pub certificate_entry_saying : (v : CertificateEntry) (d : Direction) (b : List ℕ) → certificate_entry_format.spells d b (certificate_entry_plain v) ↔ CertificateEntrySays v d b
certificate_entry_saying v d b = struct_saying tls13 "CertificateEntry" Empty (called "cert_data" (number_trees (fixed_bytes_of v.cert_data)) ∷
    called "extensions" (trees extension_plain (elements_of v.extensions)) ∷
    []) d b

pub certificate_request_saying : (v : CertificateRequest) (d : Direction) (b : List ℕ) → certificate_request_format.spells d b (certificate_request_plain v) ↔ CertificateRequestSays v d b
certificate_request_saying v d b = struct_saying tls13 "CertificateRequest" Empty (called "certificate_request_context" (number_trees (fixed_bytes_of v.certificate_request_context)) ∷
    called "extensions" (trees extension_plain (elements_of v.extensions)) ∷
    []) d b

pub certificate_type_saying : (v : CertificateType) (d : Direction) (b : List ℕ) → certificate_type_format.spells d b (certificate_type_plain v) ↔ CertificateTypeSays v d b
certificate_type_saying CertificateTypeX509 d b = same_iff
certificate_type_saying CertificateTypeOpenPGPReserved d b = same_iff
certificate_type_saying CertificateTypeRawPublicKey d b = same_iff

pub certificate_type_naming : (v : CertificateType) → value_number tls13 "CertificateType" (certificate_type_name v) ≡ certificate_type_code v
certificate_type_naming CertificateTypeX509 = refl
certificate_type_naming CertificateTypeOpenPGPReserved = refl
certificate_type_naming CertificateTypeRawPublicKey = refl

pub certificate_verify_saying : (v : CertificateVerify) (d : Direction) (b : List ℕ) → certificate_verify_format.spells d b (certificate_verify_plain v) ↔ CertificateVerifySays v d b
certificate_verify_saying v d b = struct_saying tls13 "CertificateVerify" Empty (called "algorithm" (signature_scheme_plain v.algorithm) ∷
    called "signature" (number_trees (fixed_bytes_of v.signature)) ∷
    []) d b

pub client_hello_saying : (v : ClientHello) (d : Direction) (b : List ℕ) → client_hello_format.spells d b (client_hello_plain v) ↔ ClientHelloSays v d b
client_hello_saying v d b = struct_saying tls13 "ClientHello" Empty (called "legacy_version" (protocol_version_x0303_plain v.legacy_version) ∷
    called "random" (number_trees v.random) ∷
    called "legacy_session_id" (number_trees (fixed_bytes_of v.legacy_session_id)) ∷
    called "cipher_suites" (trees number_trees (elements_of v.cipher_suites)) ∷
    called "legacy_compression_methods" (number_trees (fixed_bytes_of v.legacy_compression_methods)) ∷
    called "extensions" (trees extension_plain (elements_of v.extensions)) ∷
    []) d b

pub content_type_saying : (v : ContentType) (d : Direction) (b : List ℕ) → content_type_format.spells d b (content_type_plain v) ↔ ContentTypeSays v d b
content_type_saying v d b = number_saying tls13 "ContentType" v.0 d b

pub content_type_application_data_saying : (v : ContentTypeApplicationData) (d : Direction) (b : List ℕ) → content_type_application_data_format.spells d b (content_type_application_data_plain v) ↔ ContentTypeApplicationDataSays v d b
content_type_application_data_saying v d b = same_iff

pub cookie_saying : (v : Cookie) (d : Direction) (b : List ℕ) → cookie_format.spells d b (cookie_plain v) ↔ CookieSays v d b
cookie_saying v d b = struct_saying tls13 "Cookie" Empty (called "cookie" (number_trees (fixed_bytes_of v.cookie)) ∷
    []) d b

pub early_data_indication_saying : (c : Tree) (v : EarlyDataIndication) (d : Direction) (b : List ℕ) → (early_data_indication_format_for c).spells d b (early_data_indication_plain v) ↔ EarlyDataIndicationSays c v d b
early_data_indication_saying c (EarlyDataIndicationNewSessionTicket a0) d b = choice_saying tls13 "EarlyDataIndication" "Handshake.msg_type" (word "new_session_ticket") c (called "max_early_data_size" (Number a0) ∷
    []) d b
early_data_indication_saying c (EarlyDataIndicationClientHello a0) d b = choice_saying tls13 "EarlyDataIndication" "Handshake.msg_type" (word "client_hello") c (called "Empty" (empty_type_plain a0) ∷
    []) d b
early_data_indication_saying c (EarlyDataIndicationEncryptedExtensions a0) d b = choice_saying tls13 "EarlyDataIndication" "Handshake.msg_type" (word "encrypted_extensions") c (called "Empty" (empty_type_plain a0) ∷
    []) d b

pub empty_type_saying : (v : EmptyType) (d : Direction) (b : List ℕ) → empty_type_format.spells d b (empty_type_plain v) ↔ EmptyTypeSays v d b
empty_type_saying v d b = struct_saying tls13 "Empty" Empty [] d b

pub encrypted_extensions_saying : (v : EncryptedExtensions) (d : Direction) (b : List ℕ) → encrypted_extensions_format.spells d b (encrypted_extensions_plain v) ↔ EncryptedExtensionsSays v d b
encrypted_extensions_saying v d b = struct_saying tls13 "EncryptedExtensions" Empty (called "extensions" (trees extension_plain (elements_of v.extensions)) ∷
    []) d b

pub end_of_early_data_saying : (v : EndOfEarlyData) (d : Direction) (b : List ℕ) → end_of_early_data_format.spells d b (end_of_early_data_plain v) ↔ EndOfEarlyDataSays v d b
end_of_early_data_saying v d b = struct_saying tls13 "EndOfEarlyData" Empty [] d b

pub extension_saying : (v : Extension) (d : Direction) (b : List ℕ) → extension_format.spells d b (extension_plain v) ↔ ExtensionSays v d b
extension_saying v d b = struct_saying tls13 "Extension" Empty (called "extension_type" (extension_type_plain v.extension_type) ∷
    called "extension_data" (number_trees (fixed_bytes_of v.extension_data)) ∷
    []) d b

pub extension_type_saying : (v : ExtensionType) (d : Direction) (b : List ℕ) → extension_type_format.spells d b (extension_type_plain v) ↔ ExtensionTypeSays v d b
extension_type_saying v d b = number_saying tls13 "ExtensionType" v.0 d b

pub handshake_saying : (v : Handshake) (d : Direction) (b : List ℕ) → handshake_format.spells d b (handshake_plain v) ↔ HandshakeSays v d b
handshake_saying (HandshakeClientHello a0) d b = case_saying tls13 "Handshake" "msg_type" (word "client_hello") Empty (called "ClientHello" (client_hello_plain a0) ∷
    []) d b
handshake_saying (HandshakeServerHello a0) d b = case_saying tls13 "Handshake" "msg_type" (word "server_hello") Empty (called "ServerHello" (server_hello_plain a0) ∷
    []) d b
handshake_saying (HandshakeEndOfEarlyData a0) d b = case_saying tls13 "Handshake" "msg_type" (word "end_of_early_data") Empty (called "EndOfEarlyData" (end_of_early_data_plain a0) ∷
    []) d b
handshake_saying (HandshakeEncryptedExtensions a0) d b = case_saying tls13 "Handshake" "msg_type" (word "encrypted_extensions") Empty (called "EncryptedExtensions" (encrypted_extensions_plain a0) ∷
    []) d b
handshake_saying (HandshakeCertificateRequest a0) d b = case_saying tls13 "Handshake" "msg_type" (word "certificate_request") Empty (called "CertificateRequest" (certificate_request_plain a0) ∷
    []) d b
handshake_saying (HandshakeCertificate a0) d b = case_saying tls13 "Handshake" "msg_type" (word "certificate") Empty (called "Certificate" (certificate_plain a0) ∷
    []) d b
handshake_saying (HandshakeCertificateVerify a0) d b = case_saying tls13 "Handshake" "msg_type" (word "certificate_verify") Empty (called "CertificateVerify" (certificate_verify_plain a0) ∷
    []) d b
handshake_saying (HandshakeFinished a0) d b = case_saying tls13 "Handshake" "msg_type" (word "finished") Empty (called "Finished" (number_trees (fixed_bytes_of a0)) ∷
    []) d b
handshake_saying (HandshakeNewSessionTicket a0) d b = case_saying tls13 "Handshake" "msg_type" (word "new_session_ticket") Empty (called "NewSessionTicket" (new_session_ticket_plain a0) ∷
    []) d b
handshake_saying (HandshakeKeyUpdate a0) d b = case_saying tls13 "Handshake" "msg_type" (word "key_update") Empty (called "KeyUpdate" (key_update_plain a0) ∷
    []) d b

pub handshake_type_saying : (v : HandshakeType) (d : Direction) (b : List ℕ) → handshake_type_format.spells d b (handshake_type_plain v) ↔ HandshakeTypeSays v d b
handshake_type_saying HandshakeTypeHelloRequestReserved d b = same_iff
handshake_type_saying HandshakeTypeClientHello d b = same_iff
handshake_type_saying HandshakeTypeServerHello d b = same_iff
handshake_type_saying HandshakeTypeHelloVerifyRequestReserved d b = same_iff
handshake_type_saying HandshakeTypeNewSessionTicket d b = same_iff
handshake_type_saying HandshakeTypeEndOfEarlyData d b = same_iff
handshake_type_saying HandshakeTypeHelloRetryRequestReserved d b = same_iff
handshake_type_saying HandshakeTypeEncryptedExtensions d b = same_iff
handshake_type_saying HandshakeTypeCertificate d b = same_iff
handshake_type_saying HandshakeTypeServerKeyExchangeReserved d b = same_iff
handshake_type_saying HandshakeTypeCertificateRequest d b = same_iff
handshake_type_saying HandshakeTypeServerHelloDoneReserved d b = same_iff
handshake_type_saying HandshakeTypeCertificateVerify d b = same_iff
handshake_type_saying HandshakeTypeClientKeyExchangeReserved d b = same_iff
handshake_type_saying HandshakeTypeFinished d b = same_iff
handshake_type_saying HandshakeTypeCertificateUrlReserved d b = same_iff
handshake_type_saying HandshakeTypeCertificateStatusReserved d b = same_iff
handshake_type_saying HandshakeTypeSupplementalDataReserved d b = same_iff
handshake_type_saying HandshakeTypeKeyUpdate d b = same_iff
handshake_type_saying HandshakeTypeMessageHash d b = same_iff

pub handshake_type_naming : (v : HandshakeType) → value_number tls13 "HandshakeType" (handshake_type_name v) ≡ handshake_type_code v
handshake_type_naming HandshakeTypeHelloRequestReserved = refl
handshake_type_naming HandshakeTypeClientHello = refl
handshake_type_naming HandshakeTypeServerHello = refl
handshake_type_naming HandshakeTypeHelloVerifyRequestReserved = refl
handshake_type_naming HandshakeTypeNewSessionTicket = refl
handshake_type_naming HandshakeTypeEndOfEarlyData = refl
handshake_type_naming HandshakeTypeHelloRetryRequestReserved = refl
handshake_type_naming HandshakeTypeEncryptedExtensions = refl
handshake_type_naming HandshakeTypeCertificate = refl
handshake_type_naming HandshakeTypeServerKeyExchangeReserved = refl
handshake_type_naming HandshakeTypeCertificateRequest = refl
handshake_type_naming HandshakeTypeServerHelloDoneReserved = refl
handshake_type_naming HandshakeTypeCertificateVerify = refl
handshake_type_naming HandshakeTypeClientKeyExchangeReserved = refl
handshake_type_naming HandshakeTypeFinished = refl
handshake_type_naming HandshakeTypeCertificateUrlReserved = refl
handshake_type_naming HandshakeTypeCertificateStatusReserved = refl
handshake_type_naming HandshakeTypeSupplementalDataReserved = refl
handshake_type_naming HandshakeTypeKeyUpdate = refl
handshake_type_naming HandshakeTypeMessageHash = refl

pub key_share_client_hello_saying : (v : KeyShareClientHello) (d : Direction) (b : List ℕ) → key_share_client_hello_format.spells d b (key_share_client_hello_plain v) ↔ KeyShareClientHelloSays v d b
key_share_client_hello_saying v d b = struct_saying tls13 "KeyShareClientHello" Empty (called "client_shares" (trees key_share_entry_plain (elements_of v.client_shares)) ∷
    []) d b

pub key_share_entry_saying : (v : KeyShareEntry) (d : Direction) (b : List ℕ) → key_share_entry_format.spells d b (key_share_entry_plain v) ↔ KeyShareEntrySays v d b
key_share_entry_saying v d b = struct_saying tls13 "KeyShareEntry" Empty (called "group" (named_group_plain v.group) ∷
    called "key_exchange" (number_trees (fixed_bytes_of v.key_exchange)) ∷
    []) d b

pub key_share_hello_retry_request_saying : (v : KeyShareHelloRetryRequest) (d : Direction) (b : List ℕ) → key_share_hello_retry_request_format.spells d b (key_share_hello_retry_request_plain v) ↔ KeyShareHelloRetryRequestSays v d b
key_share_hello_retry_request_saying v d b = struct_saying tls13 "KeyShareHelloRetryRequest" Empty (called "selected_group" (named_group_plain v.selected_group) ∷
    []) d b

pub key_share_server_hello_saying : (v : KeyShareServerHello) (d : Direction) (b : List ℕ) → key_share_server_hello_format.spells d b (key_share_server_hello_plain v) ↔ KeyShareServerHelloSays v d b
key_share_server_hello_saying v d b = struct_saying tls13 "KeyShareServerHello" Empty (called "server_share" (key_share_entry_plain v.server_share) ∷
    []) d b

pub key_update_saying : (v : KeyUpdate) (d : Direction) (b : List ℕ) → key_update_format.spells d b (key_update_plain v) ↔ KeyUpdateSays v d b
key_update_saying v d b = struct_saying tls13 "KeyUpdate" Empty (called "request_update" (key_update_request_plain v.request_update) ∷
    []) d b

pub key_update_request_saying : (v : KeyUpdateRequest) (d : Direction) (b : List ℕ) → key_update_request_format.spells d b (key_update_request_plain v) ↔ KeyUpdateRequestSays v d b
key_update_request_saying KeyUpdateRequestUpdateNotRequested d b = same_iff
key_update_request_saying KeyUpdateRequestUpdateRequested d b = same_iff

pub key_update_request_naming : (v : KeyUpdateRequest) → value_number tls13 "KeyUpdateRequest" (key_update_request_name v) ≡ key_update_request_code v
key_update_request_naming KeyUpdateRequestUpdateNotRequested = refl
key_update_request_naming KeyUpdateRequestUpdateRequested = refl

pub legacy_compression_method_x00_saying : (v : LegacyCompressionMethodX00) (d : Direction) (b : List ℕ) → legacy_compression_method_x00_format.spells d b (legacy_compression_method_x00_plain v) ↔ LegacyCompressionMethodX00Says v d b
legacy_compression_method_x00_saying v d b = same_iff

pub named_group_saying : (v : NamedGroup) (d : Direction) (b : List ℕ) → named_group_format.spells d b (named_group_plain v) ↔ NamedGroupSays v d b
named_group_saying v d b = number_saying tls13 "NamedGroup" v.0 d b

pub named_group_list_saying : (v : NamedGroupList) (d : Direction) (b : List ℕ) → named_group_list_format.spells d b (named_group_list_plain v) ↔ NamedGroupListSays v d b
named_group_list_saying v d b = struct_saying tls13 "NamedGroupList" Empty (called "named_group_list" (trees named_group_plain (elements_of v.named_group_list)) ∷
    []) d b

pub new_session_ticket_saying : (v : NewSessionTicket) (d : Direction) (b : List ℕ) → new_session_ticket_format.spells d b (new_session_ticket_plain v) ↔ NewSessionTicketSays v d b
new_session_ticket_saying v d b = struct_saying tls13 "NewSessionTicket" Empty (called "ticket_lifetime" (Number v.ticket_lifetime) ∷
    called "ticket_age_add" (Number v.ticket_age_add) ∷
    called "ticket_nonce" (number_trees (fixed_bytes_of v.ticket_nonce)) ∷
    called "ticket" (number_trees (fixed_bytes_of v.ticket)) ∷
    called "extensions" (trees extension_plain (elements_of v.extensions)) ∷
    []) d b

pub oid_filter_saying : (v : OIDFilter) (d : Direction) (b : List ℕ) → oid_filter_format.spells d b (oid_filter_plain v) ↔ OIDFilterSays v d b
oid_filter_saying v d b = struct_saying tls13 "OIDFilter" Empty (called "certificate_extension_oid" (number_trees (fixed_bytes_of v.certificate_extension_oid)) ∷
    called "certificate_extension_values" (number_trees (fixed_bytes_of v.certificate_extension_values)) ∷
    []) d b

pub oid_filter_extension_saying : (v : OIDFilterExtension) (d : Direction) (b : List ℕ) → oid_filter_extension_format.spells d b (oid_filter_extension_plain v) ↔ OIDFilterExtensionSays v d b
oid_filter_extension_saying v d b = struct_saying tls13 "OIDFilterExtension" Empty (called "filters" (trees oid_filter_plain (elements_of v.filters)) ∷
    []) d b

pub offered_psks_saying : (v : OfferedPsks) (d : Direction) (b : List ℕ) → offered_psks_format.spells d b (offered_psks_plain v) ↔ OfferedPsksSays v d b
offered_psks_saying v d b = struct_saying tls13 "OfferedPsks" Empty (called "identities" (trees psk_identity_plain (elements_of v.identities)) ∷
    called "binders" (trees (λ v. number_trees (fixed_bytes_of v)) (elements_of v.binders)) ∷
    []) d b

pub post_handshake_auth_saying : (v : PostHandshakeAuth) (d : Direction) (b : List ℕ) → post_handshake_auth_format.spells d b (post_handshake_auth_plain v) ↔ PostHandshakeAuthSays v d b
post_handshake_auth_saying v d b = struct_saying tls13 "PostHandshakeAuth" Empty [] d b

pub pre_shared_key_extension_saying : (c : Tree) (v : PreSharedKeyExtension) (d : Direction) (b : List ℕ) → (pre_shared_key_extension_format_for c).spells d b (pre_shared_key_extension_plain v) ↔ PreSharedKeyExtensionSays c v d b
pre_shared_key_extension_saying c (PreSharedKeyExtensionClientHello a0) d b = choice_saying tls13 "PreSharedKeyExtension" "Handshake.msg_type" (word "client_hello") c (called "OfferedPsks" (offered_psks_plain a0) ∷
    []) d b
pre_shared_key_extension_saying c (PreSharedKeyExtensionServerHello a0) d b = choice_saying tls13 "PreSharedKeyExtension" "Handshake.msg_type" (word "server_hello") c (called "selected_identity" (Number a0) ∷
    []) d b

pub protocol_version_x0303_saying : (v : ProtocolVersionX0303) (d : Direction) (b : List ℕ) → protocol_version_x0303_format.spells d b (protocol_version_x0303_plain v) ↔ ProtocolVersionX0303Says v d b
protocol_version_x0303_saying v d b = same_iff

pub psk_identity_saying : (v : PskIdentity) (d : Direction) (b : List ℕ) → psk_identity_format.spells d b (psk_identity_plain v) ↔ PskIdentitySays v d b
psk_identity_saying v d b = struct_saying tls13 "PskIdentity" Empty (called "identity" (number_trees (fixed_bytes_of v.identity)) ∷
    called "obfuscated_ticket_age" (Number v.obfuscated_ticket_age) ∷
    []) d b

pub psk_key_exchange_mode_saying : (v : PskKeyExchangeMode) (d : Direction) (b : List ℕ) → psk_key_exchange_mode_format.spells d b (psk_key_exchange_mode_plain v) ↔ PskKeyExchangeModeSays v d b
psk_key_exchange_mode_saying v d b = number_saying tls13 "PskKeyExchangeMode" v.0 d b

pub psk_key_exchange_modes_saying : (v : PskKeyExchangeModes) (d : Direction) (b : List ℕ) → psk_key_exchange_modes_format.spells d b (psk_key_exchange_modes_plain v) ↔ PskKeyExchangeModesSays v d b
psk_key_exchange_modes_saying v d b = struct_saying tls13 "PskKeyExchangeModes" Empty (called "ke_modes" (trees psk_key_exchange_mode_plain (elements_of v.ke_modes)) ∷
    []) d b

pub server_hello_saying : (v : ServerHello) (d : Direction) (b : List ℕ) → server_hello_format.spells d b (server_hello_plain v) ↔ ServerHelloSays v d b
server_hello_saying v d b = struct_saying tls13 "ServerHello" Empty (called "legacy_version" (protocol_version_x0303_plain v.legacy_version) ∷
    called "random" (number_trees v.random) ∷
    called "legacy_session_id_echo" (number_trees (fixed_bytes_of v.legacy_session_id_echo)) ∷
    called "cipher_suite" (number_trees v.cipher_suite) ∷
    called "legacy_compression_method" (legacy_compression_method_x00_plain v.legacy_compression_method) ∷
    called "extensions" (trees extension_plain (elements_of v.extensions)) ∷
    []) d b

pub signature_scheme_saying : (v : SignatureScheme) (d : Direction) (b : List ℕ) → signature_scheme_format.spells d b (signature_scheme_plain v) ↔ SignatureSchemeSays v d b
signature_scheme_saying v d b = number_saying tls13 "SignatureScheme" v.0 d b

pub signature_scheme_list_saying : (v : SignatureSchemeList) (d : Direction) (b : List ℕ) → signature_scheme_list_format.spells d b (signature_scheme_list_plain v) ↔ SignatureSchemeListSays v d b
signature_scheme_list_saying v d b = struct_saying tls13 "SignatureSchemeList" Empty (called "supported_signature_algorithms" (trees signature_scheme_plain (elements_of v.supported_signature_algorithms)) ∷
    []) d b

pub supported_versions_saying : (c : Tree) (v : SupportedVersions) (d : Direction) (b : List ℕ) → (supported_versions_format_for c).spells d b (supported_versions_plain v) ↔ SupportedVersionsSays c v d b
supported_versions_saying c (SupportedVersionsClientHello a0) d b = choice_saying tls13 "SupportedVersions" "Handshake.msg_type" (word "client_hello") c (called "versions" (trees Number (elements_of a0)) ∷
    []) d b
supported_versions_saying c (SupportedVersionsServerHello a0) d b = choice_saying tls13 "SupportedVersions" "Handshake.msg_type" (word "server_hello") c (called "selected_version" (Number a0) ∷
    []) d b

pub tls_ciphertext_saying : (v : TLSCiphertext) (d : Direction) (b : List ℕ) → tls_ciphertext_format.spells d b (tls_ciphertext_plain v) ↔ TLSCiphertextSays v d b
tls_ciphertext_saying v d b = struct_saying tls13 "TLSCiphertext" Empty (called "opaque_type" (content_type_application_data_plain v.opaque_type) ∷
    called "legacy_record_version" (protocol_version_x0303_plain v.legacy_record_version) ∷
    called "encrypted_record" (number_trees (fixed_bytes_of v.encrypted_record)) ∷
    []) d b

pub tls_plaintext_saying : (v : TLSPlaintext) (d : Direction) (b : List ℕ) → tls_plaintext_format.spells d b (tls_plaintext_plain v) ↔ TLSPlaintextSays v d b
tls_plaintext_saying v d b = struct_saying tls13 "TLSPlaintext" Empty (called "type" (content_type_plain v.kind) ∷
    called "legacy_record_version" (Number v.legacy_record_version) ∷
    called "fragment" (number_trees (fixed_bytes_of v.fragment)) ∷
    []) d b
