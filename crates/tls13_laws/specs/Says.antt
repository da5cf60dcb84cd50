-- What each type's values say: their parts by the names in the text.
use Rattle.std.specs.Prelude.{ℕ, List, [], ◌∷◌}
use Rattle.tls_codec_grammar.specs.Tree.{Tree, Number, Empty, trees, number_trees}
use Rattle.tls_codec_grammar.specs.Grammar.{Direction}
use Rattle.tls_presentation.specs.Definition.{word}
use Rattle.tls13_laws.specs.Definitions.{tls13}
use Rattle.tls_presentation.specs.Says.{called, says, value_says, constant_says, number_says, case_says, choice_says}
use Rattle.tls13.specs.AlertDescription.{alert_description_plain}
use Rattle.tls13.specs.AlertLevel.{alert_level_plain}
use Rattle.tls13.specs.Certificate.{certificate_plain}
use Rattle.tls13.specs.CertificateEntry.{certificate_entry_plain}
use Rattle.tls13.specs.CertificateRequest.{certificate_request_plain}
use Rattle.tls13.specs.CertificateVerify.{certificate_verify_plain}
use Rattle.tls13.specs.ClientHello.{client_hello_plain}
use Rattle.tls13.specs.ContentType.{content_type_plain}
use Rattle.tls13.specs.ContentTypeApplicationData.{content_type_application_data_plain}
use Rattle.tls13.specs.EmptyType.{empty_type_plain}
use Rattle.tls13.specs.EncryptedExtensions.{encrypted_extensions_plain}
use Rattle.tls13.specs.EndOfEarlyData.{end_of_early_data_plain}
use Rattle.tls13.specs.Extension.{extension_plain}
use Rattle.tls13.specs.ExtensionType.{extension_type_plain}
use Rattle.tls13.specs.KeyShareEntry.{key_share_entry_plain}
use Rattle.tls13.specs.KeyUpdate.{key_update_plain}
use Rattle.tls13.specs.KeyUpdateRequest.{key_update_request_plain}
use Rattle.tls13.specs.LegacyCompressionMethodX00.{legacy_compression_method_x00_plain}
use Rattle.tls13.specs.NamedGroup.{named_group_plain}
use Rattle.tls13.specs.NewSessionTicket.{new_session_ticket_plain}
use Rattle.tls13.specs.OIDFilter.{oid_filter_plain}
use Rattle.tls13.specs.OfferedPsks.{offered_psks_plain}
use Rattle.tls13.specs.ProtocolVersionX0303.{protocol_version_x0303_plain}
use Rattle.tls13.specs.PskIdentity.{psk_identity_plain}
use Rattle.tls13.specs.PskKeyExchangeMode.{psk_key_exchange_mode_plain}
use Rattle.tls13.specs.ServerHello.{server_hello_plain}
use Rattle.tls13.specs.SignatureScheme.{signature_scheme_plain}
use Rattle.tls_codec.specs.Contents.{elements_of, fixed_bytes_of}
use Rattle.tls13.specs.declared.alert.Alert.{Alert}
use Rattle.tls13.specs.declared.alert_description.AlertDescription.{AlertDescription}
use Rattle.tls13.specs.declared.alert_level.AlertLevel.{AlertLevel}
use Rattle.tls13.specs.declared.certificate.Certificate.{Certificate}
use Rattle.tls13.specs.declared.certificate_authorities_extension.CertificateAuthoritiesExtension.{CertificateAuthoritiesExtension}
use Rattle.tls13.specs.declared.certificate_entry.CertificateEntry.{CertificateEntry}
use Rattle.tls13.specs.declared.certificate_request.CertificateRequest.{CertificateRequest}
use Rattle.tls13.specs.declared.certificate_type.CertificateType.{CertificateType}
use Rattle.tls13.specs.declared.certificate_verify.CertificateVerify.{CertificateVerify}
use Rattle.tls13.specs.declared.client_hello.ClientHello.{ClientHello}
use Rattle.tls13.specs.declared.content_type.ContentType.{ContentType}
use Rattle.tls13.specs.declared.content_type_application_data.ContentTypeApplicationData.{ContentTypeApplicationData}
use Rattle.tls13.specs.declared.cookie.Cookie.{Cookie}
use Rattle.tls13.specs.declared.early_data_indication.EarlyDataIndication.{EarlyDataIndication}
use Rattle.tls13.specs.declared.empty_type.EmptyType.{EmptyType}
use Rattle.tls13.specs.declared.encrypted_extensions.EncryptedExtensions.{EncryptedExtensions}
use Rattle.tls13.specs.declared.end_of_early_data.EndOfEarlyData.{EndOfEarlyData}
use Rattle.tls13.specs.declared.extension.Extension.{Extension}
use Rattle.tls13.specs.declared.extension_type.ExtensionType.{ExtensionType}
use Rattle.tls13.specs.declared.handshake.Handshake.{Handshake}
use Rattle.tls13.specs.declared.handshake_type.HandshakeType.{HandshakeType}
use Rattle.tls13.specs.declared.key_share_client_hello.KeyShareClientHello.{KeyShareClientHello}
use Rattle.tls13.specs.declared.key_share_entry.KeyShareEntry.{KeyShareEntry}
use Rattle.tls13.specs.declared.key_share_hello_retry_request.KeyShareHelloRetryRequest.{KeyShareHelloRetryRequest}
use Rattle.tls13.specs.declared.key_share_server_hello.KeyShareServerHello.{KeyShareServerHello}
use Rattle.tls13.specs.declared.key_update.KeyUpdate.{KeyUpdate}
use Rattle.tls13.specs.declared.key_update_request.KeyUpdateRequest.{KeyUpdateRequest}
use Rattle.tls13.specs.declared.legacy_compression_method_x00.LegacyCompressionMethodX00.{LegacyCompressionMethodX00}
use Rattle.tls13.specs.declared.named_group.NamedGroup.{NamedGroup}
use Rattle.tls13.specs.declared.named_group_list.NamedGroupList.{NamedGroupList}
use Rattle.tls13.specs.declared.new_session_ticket.NewSessionTicket.{NewSessionTicket}
use Rattle.tls13.specs.declared.oid_filter.OIDFilter.{OIDFilter}
use Rattle.tls13.specs.declared.oid_filter_extension.OIDFilterExtension.{OIDFilterExtension}
use Rattle.tls13.specs.declared.offered_psks.OfferedPsks.{OfferedPsks}
use Rattle.tls13.specs.declared.post_handshake_auth.PostHandshakeAuth.{PostHandshakeAuth}
use Rattle.tls13.specs.declared.pre_shared_key_extension.PreSharedKeyExtension.{PreSharedKeyExtension}
use Rattle.tls13.specs.declared.protocol_version_x0303.ProtocolVersionX0303.{ProtocolVersionX0303}
use Rattle.tls13.specs.declared.psk_identity.PskIdentity.{PskIdentity}
use Rattle.tls13.specs.declared.psk_key_exchange_mode.PskKeyExchangeMode.{PskKeyExchangeMode}
use Rattle.tls13.specs.declared.psk_key_exchange_modes.PskKeyExchangeModes.{PskKeyExchangeModes}
use Rattle.tls13.specs.declared.server_hello.ServerHello.{ServerHello}
use Rattle.tls13.specs.declared.signature_scheme.SignatureScheme.{SignatureScheme}
use Rattle.tls13.specs.declared.signature_scheme_list.SignatureSchemeList.{SignatureSchemeList}
use Rattle.tls13.specs.declared.supported_versions.SupportedVersions.{SupportedVersions}
use Rattle.tls13.specs.declared.tls_ciphertext.TLSCiphertext.{TLSCiphertext}
use Rattle.tls13.specs.declared.tls_plaintext.TLSPlaintext.{TLSPlaintext}
use Rattle.tls13.specs.declared.certificate_type.CertificateType.TheVariants.{X509 as CertificateTypeX509, OpenPGPReserved as CertificateTypeOpenPGPReserved, RawPublicKey as CertificateTypeRawPublicKey}
use Rattle.tls13.specs.declared.early_data_indication.EarlyDataIndication.TheVariants.{NewSessionTicket as EarlyDataIndicationNewSessionTicket, ClientHello as EarlyDataIndicationClientHello, EncryptedExtensions as EarlyDataIndicationEncryptedExtensions}
use Rattle.tls13.specs.declared.handshake.Handshake.TheVariants.{ClientHello as HandshakeClientHello, ServerHello as HandshakeServerHello, EndOfEarlyData as HandshakeEndOfEarlyData, EncryptedExtensions as HandshakeEncryptedExtensions, CertificateRequest as HandshakeCertificateRequest, Certificate as HandshakeCertificate, CertificateVerify as HandshakeCertificateVerify, Finished as HandshakeFinished, NewSessionTicket as HandshakeNewSessionTicket, KeyUpdate as HandshakeKeyUpdate}
use Rattle.tls13.specs.declared.handshake_type.HandshakeType.TheVariants.{HelloRequestReserved as HandshakeTypeHelloRequestReserved, ClientHello as HandshakeTypeClientHello, ServerHello as HandshakeTypeServerHello, HelloVerifyRequestReserved as HandshakeTypeHelloVerifyRequestReserved, NewSessionTicket as HandshakeTypeNewSessionTicket, EndOfEarlyData as HandshakeTypeEndOfEarlyData, HelloRetryRequestReserved as HandshakeTypeHelloRetryRequestReserved, EncryptedExtensions as HandshakeTypeEncryptedExtensions, Certificate as HandshakeTypeCertificate, ServerKeyExchangeReserved as HandshakeTypeServerKeyExchangeReserved, CertificateRequest as HandshakeTypeCertificateRequest, ServerHelloDoneReserved as HandshakeTypeServerHelloDoneReserved, CertificateVerify as HandshakeTypeCertificateVerify, ClientKeyExchangeReserved as HandshakeTypeClientKeyExchangeReserved, Finished as HandshakeTypeFinished, CertificateUrlReserved as HandshakeTypeCertificateUrlReserved, CertificateStatusReserved as HandshakeTypeCertificateStatusReserved, SupplementalDataReserved as HandshakeTypeSupplementalDataReserved, KeyUpdate as HandshakeTypeKeyUpdate, MessageHash as HandshakeTypeMessageHash}
use Rattle.tls13.specs.declared.key_update_request.KeyUpdateRequest.TheVariants.{UpdateNotRequested as KeyUpdateRequestUpdateNotRequested, UpdateRequested as KeyUpdateRequestUpdateRequested}
use Rattle.tls13.specs.declared.pre_shared_key_extension.PreSharedKeyExtension.TheVariants.{ClientHello as PreSharedKeyExtensionClientHello, ServerHello as PreSharedKeyExtensionServerHello}
use Rattle.tls13.specs.declared.supported_versions.SupportedVersions.TheVariants.{ClientHello as SupportedVersionsClientHello, ServerHello as SupportedVersionsServerHello}

abbrev pub AlertSays : Alert → Direction → List ℕ → Type 0
AlertSays v = says tls13 "Alert" Empty (called "level" (alert_level_plain v.level) ∷
    called "description" (alert_description_plain v.description) ∷
    [])

abbrev pub AlertDescriptionSays : AlertDescription → Direction → List ℕ → Type 0
AlertDescriptionSays v = number_says tls13 "AlertDescription" v.0

abbrev pub AlertLevelSays : AlertLevel → Direction → List ℕ → Type 0
AlertLevelSays v = number_says tls13 "AlertLevel" v.0

abbrev pub CertificateSays : Certificate → Direction → List ℕ → Type 0
CertificateSays v = says tls13 "Certificate" Empty (called "certificate_request_context" (number_trees (fixed_bytes_of v.certificate_request_context)) ∷
    called "certificate_list" (trees certificate_entry_plain (elements_of v.certificate_list)) ∷
    [])

abbrev pub CertificateAuthoritiesExtensionSays : CertificateAuthoritiesExtension → Direction → List ℕ → Type 0
CertificateAuthoritiesExtensionSays v = says tls13 "CertificateAuthoritiesExtension" Empty (called "authorities" (trees (λ v. number_trees (fixed_bytes_of v)) (elements_of v.authorities)) ∷
    [])

abbrev pub CertificateEntrySays : CertificateEntry → Direction → List ℕ → Type 0
CertificateEntrySays v = says tls13 "CertificateEntry" Empty (called "cert_data" (number_trees (fixed_bytes_of v.cert_data)) ∷
    called "extensions" (trees extension_plain (elements_of v.extensions)) ∷
    [])

abbrev pub CertificateRequestSays : CertificateRequest → Direction → List ℕ → Type 0
CertificateRequestSays v = says tls13 "CertificateRequest" Empty (called "certificate_request_context" (number_trees (fixed_bytes_of v.certificate_request_context)) ∷
    called "extensions" (trees extension_plain (elements_of v.extensions)) ∷
    [])

abbrev pub CertificateTypeSays : CertificateType → Direction → List ℕ → Type 0
CertificateTypeSays CertificateTypeX509 = value_says tls13 "CertificateType" "X509"
CertificateTypeSays CertificateTypeOpenPGPReserved = value_says tls13 "CertificateType" "OpenPGP_RESERVED"
CertificateTypeSays CertificateTypeRawPublicKey = value_says tls13 "CertificateType" "RawPublicKey"

abbrev pub CertificateVerifySays : CertificateVerify → Direction → List ℕ → Type 0
CertificateVerifySays v = says tls13 "CertificateVerify" Empty (called "algorithm" (signature_scheme_plain v.algorithm) ∷
    called "signature" (number_trees (fixed_bytes_of v.signature)) ∷
    [])

abbrev pub ClientHelloSays : ClientHello → Direction → List ℕ → Type 0
ClientHelloSays v = says tls13 "ClientHello" Empty (called "legacy_version" (protocol_version_x0303_plain v.legacy_version) ∷
    called "random" (number_trees v.random) ∷
    called "legacy_session_id" (number_trees (fixed_bytes_of v.legacy_session_id)) ∷
    called "cipher_suites" (trees number_trees (elements_of v.cipher_suites)) ∷
    called "legacy_compression_methods" (number_trees (fixed_bytes_of v.legacy_compression_methods)) ∷
    called "extensions" (trees extension_plain (elements_of v.extensions)) ∷
    [])

abbrev pub ContentTypeSays : ContentType → Direction → List ℕ → Type 0
ContentTypeSays v = number_says tls13 "ContentType" v.0

abbrev pub ContentTypeApplicationDataSays : ContentTypeApplicationData → Direction → List ℕ → Type 0
ContentTypeApplicationDataSays v = constant_says tls13 "TLSCiphertext" "opaque_type"

abbrev pub CookieSays : Cookie → Direction → List ℕ → Type 0
CookieSays v = says tls13 "Cookie" Empty (called "cookie" (number_trees (fixed_bytes_of v.cookie)) ∷
    [])

abbrev pub EarlyDataIndicationSays : Tree → EarlyDataIndication → Direction → List ℕ → Type 0
EarlyDataIndicationSays c (EarlyDataIndicationNewSessionTicket a0) = choice_says tls13 "EarlyDataIndication" "Handshake.msg_type" (word "new_session_ticket") c (called "max_early_data_size" (Number a0) ∷
    [])
EarlyDataIndicationSays c (EarlyDataIndicationClientHello a0) = choice_says tls13 "EarlyDataIndication" "Handshake.msg_type" (word "client_hello") c (called "Empty" (empty_type_plain a0) ∷
    [])
EarlyDataIndicationSays c (EarlyDataIndicationEncryptedExtensions a0) = choice_says tls13 "EarlyDataIndication" "Handshake.msg_type" (word "encrypted_extensions") c (called "Empty" (empty_type_plain a0) ∷
    [])

abbrev pub EmptyTypeSays : EmptyType → Direction → List ℕ → Type 0
EmptyTypeSays v = says tls13 "Empty" Empty []

abbrev pub EncryptedExtensionsSays : EncryptedExtensions → Direction → List ℕ → Type 0
EncryptedExtensionsSays v = says tls13 "EncryptedExtensions" Empty (called "extensions" (trees extension_plain (elements_of v.extensions)) ∷
    [])

abbrev pub EndOfEarlyDataSays : EndOfEarlyData → Direction → List ℕ → Type 0
EndOfEarlyDataSays v = says tls13 "EndOfEarlyData" Empty []

abbrev pub ExtensionSays : Extension → Direction → List ℕ → Type 0
ExtensionSays v = says tls13 "Extension" Empty (called "extension_type" (extension_type_plain v.extension_type) ∷
    called "extension_data" (number_trees (fixed_bytes_of v.extension_data)) ∷
    [])

abbrev pub ExtensionTypeSays : ExtensionType → Direction → List ℕ → Type 0
ExtensionTypeSays v = number_says tls13 "ExtensionType" v.0

abbrev pub HandshakeSays : Handshake → Direction → List ℕ → Type 0
HandshakeSays (HandshakeClientHello a0) = case_says tls13 "Handshake" "msg_type" (word "client_hello") Empty (called "ClientHello" (client_hello_plain a0) ∷
    [])
HandshakeSays (HandshakeServerHello a0) = case_says tls13 "Handshake" "msg_type" (word "server_hello") Empty (called "ServerHello" (server_hello_plain a0) ∷
    [])
HandshakeSays (HandshakeEndOfEarlyData a0) = case_says tls13 "Handshake" "msg_type" (word "end_of_early_data") Empty (called "EndOfEarlyData" (end_of_early_data_plain a0) ∷
    [])
HandshakeSays (HandshakeEncryptedExtensions a0) = case_says tls13 "Handshake" "msg_type" (word "encrypted_extensions") Empty (called "EncryptedExtensions" (encrypted_extensions_plain a0) ∷
    [])
HandshakeSays (HandshakeCertificateRequest a0) = case_says tls13 "Handshake" "msg_type" (word "certificate_request") Empty (called "CertificateRequest" (certificate_request_plain a0) ∷
    [])
HandshakeSays (HandshakeCertificate a0) = case_says tls13 "Handshake" "msg_type" (word "certificate") Empty (called "Certificate" (certificate_plain a0) ∷
    [])
HandshakeSays (HandshakeCertificateVerify a0) = case_says tls13 "Handshake" "msg_type" (word "certificate_verify") Empty (called "CertificateVerify" (certificate_verify_plain a0) ∷
    [])
HandshakeSays (HandshakeFinished a0) = case_says tls13 "Handshake" "msg_type" (word "finished") Empty (called "Finished" (number_trees (fixed_bytes_of a0)) ∷
    [])
HandshakeSays (HandshakeNewSessionTicket a0) = case_says tls13 "Handshake" "msg_type" (word "new_session_ticket") Empty (called "NewSessionTicket" (new_session_ticket_plain a0) ∷
    [])
HandshakeSays (HandshakeKeyUpdate a0) = case_says tls13 "Handshake" "msg_type" (word "key_update") Empty (called "KeyUpdate" (key_update_plain a0) ∷
    [])

abbrev pub HandshakeTypeSays : HandshakeType → Direction → List ℕ → Type 0
HandshakeTypeSays HandshakeTypeHelloRequestReserved = value_says tls13 "HandshakeType" "hello_request_RESERVED"
HandshakeTypeSays HandshakeTypeClientHello = value_says tls13 "HandshakeType" "client_hello"
HandshakeTypeSays HandshakeTypeServerHello = value_says tls13 "HandshakeType" "server_hello"
HandshakeTypeSays HandshakeTypeHelloVerifyRequestReserved = value_says tls13 "HandshakeType" "hello_verify_request_RESERVED"
HandshakeTypeSays HandshakeTypeNewSessionTicket = value_says tls13 "HandshakeType" "new_session_ticket"
HandshakeTypeSays HandshakeTypeEndOfEarlyData = value_says tls13 "HandshakeType" "end_of_early_data"
HandshakeTypeSays HandshakeTypeHelloRetryRequestReserved = value_says tls13 "HandshakeType" "hello_retry_request_RESERVED"
HandshakeTypeSays HandshakeTypeEncryptedExtensions = value_says tls13 "HandshakeType" "encrypted_extensions"
HandshakeTypeSays HandshakeTypeCertificate = value_says tls13 "HandshakeType" "certificate"
HandshakeTypeSays HandshakeTypeServerKeyExchangeReserved = value_says tls13 "HandshakeType" "server_key_exchange_RESERVED"
HandshakeTypeSays HandshakeTypeCertificateRequest = value_says tls13 "HandshakeType" "certificate_request"
HandshakeTypeSays HandshakeTypeServerHelloDoneReserved = value_says tls13 "HandshakeType" "server_hello_done_RESERVED"
HandshakeTypeSays HandshakeTypeCertificateVerify = value_says tls13 "HandshakeType" "certificate_verify"
HandshakeTypeSays HandshakeTypeClientKeyExchangeReserved = value_says tls13 "HandshakeType" "client_key_exchange_RESERVED"
HandshakeTypeSays HandshakeTypeFinished = value_says tls13 "HandshakeType" "finished"
HandshakeTypeSays HandshakeTypeCertificateUrlReserved = value_says tls13 "HandshakeType" "certificate_url_RESERVED"
HandshakeTypeSays HandshakeTypeCertificateStatusReserved = value_says tls13 "HandshakeType" "certificate_status_RESERVED"
HandshakeTypeSays HandshakeTypeSupplementalDataReserved = value_says tls13 "HandshakeType" "supplemental_data_RESERVED"
HandshakeTypeSays HandshakeTypeKeyUpdate = value_says tls13 "HandshakeType" "key_update"
HandshakeTypeSays HandshakeTypeMessageHash = value_says tls13 "HandshakeType" "message_hash"

abbrev pub KeyShareClientHelloSays : KeyShareClientHello → Direction → List ℕ → Type 0
KeyShareClientHelloSays v = says tls13 "KeyShareClientHello" Empty (called "client_shares" (trees key_share_entry_plain (elements_of v.client_shares)) ∷
    [])

abbrev pub KeyShareEntrySays : KeyShareEntry → Direction → List ℕ → Type 0
KeyShareEntrySays v = says tls13 "KeyShareEntry" Empty (called "group" (named_group_plain v.group) ∷
    called "key_exchange" (number_trees (fixed_bytes_of v.key_exchange)) ∷
    [])

abbrev pub KeyShareHelloRetryRequestSays : KeyShareHelloRetryRequest → Direction → List ℕ → Type 0
KeyShareHelloRetryRequestSays v = says tls13 "KeyShareHelloRetryRequest" Empty (called "selected_group" (named_group_plain v.selected_group) ∷
    [])

abbrev pub KeyShareServerHelloSays : KeyShareServerHello → Direction → List ℕ → Type 0
KeyShareServerHelloSays v = says tls13 "KeyShareServerHello" Empty (called "server_share" (key_share_entry_plain v.server_share) ∷
    [])

abbrev pub KeyUpdateSays : KeyUpdate → Direction → List ℕ → Type 0
KeyUpdateSays v = says tls13 "KeyUpdate" Empty (called "request_update" (key_update_request_plain v.request_update) ∷
    [])

abbrev pub KeyUpdateRequestSays : KeyUpdateRequest → Direction → List ℕ → Type 0
KeyUpdateRequestSays KeyUpdateRequestUpdateNotRequested = value_says tls13 "KeyUpdateRequest" "update_not_requested"
KeyUpdateRequestSays KeyUpdateRequestUpdateRequested = value_says tls13 "KeyUpdateRequest" "update_requested"

abbrev pub LegacyCompressionMethodX00Says : LegacyCompressionMethodX00 → Direction → List ℕ → Type 0
LegacyCompressionMethodX00Says v = constant_says tls13 "ServerHello" "legacy_compression_method"

abbrev pub NamedGroupSays : NamedGroup → Direction → List ℕ → Type 0
NamedGroupSays v = number_says tls13 "NamedGroup" v.0

abbrev pub NamedGroupListSays : NamedGroupList → Direction → List ℕ → Type 0
NamedGroupListSays v = says tls13 "NamedGroupList" Empty (called "named_group_list" (trees named_group_plain (elements_of v.named_group_list)) ∷
    [])

abbrev pub NewSessionTicketSays : NewSessionTicket → Direction → List ℕ → Type 0
NewSessionTicketSays v = says tls13 "NewSessionTicket" Empty (called "ticket_lifetime" (Number v.ticket_lifetime) ∷
    called "ticket_age_add" (Number v.ticket_age_add) ∷
    called "ticket_nonce" (number_trees (fixed_bytes_of v.ticket_nonce)) ∷
    called "ticket" (number_trees (fixed_bytes_of v.ticket)) ∷
    called "extensions" (trees extension_plain (elements_of v.extensions)) ∷
    [])

abbrev pub OIDFilterSays : OIDFilter → Direction → List ℕ → Type 0
OIDFilterSays v = says tls13 "OIDFilter" Empty (called "certificate_extension_oid" (number_trees (fixed_bytes_of v.certificate_extension_oid)) ∷
    called "certificate_extension_values" (number_trees (fixed_bytes_of v.certificate_extension_values)) ∷
    [])

abbrev pub OIDFilterExtensionSays : OIDFilterExtension → Direction → List ℕ → Type 0
OIDFilterExtensionSays v = says tls13 "OIDFilterExtension" Empty (called "filters" (trees oid_filter_plain (elements_of v.filters)) ∷
    [])

abbrev pub OfferedPsksSays : OfferedPsks → Direction → List ℕ → Type 0
OfferedPsksSays v = says tls13 "OfferedPsks" Empty (called "identities" (trees psk_identity_plain (elements_of v.identities)) ∷
    called "binders" (trees (λ v. number_trees (fixed_bytes_of v)) (elements_of v.binders)) ∷
    [])

abbrev pub PostHandshakeAuthSays : PostHandshakeAuth → Direction → List ℕ → Type 0
PostHandshakeAuthSays v = says tls13 "PostHandshakeAuth" Empty []

abbrev pub PreSharedKeyExtensionSays : Tree → PreSharedKeyExtension → Direction → List ℕ → Type 0
PreSharedKeyExtensionSays c (PreSharedKeyExtensionClientHello a0) = choice_says tls13 "PreSharedKeyExtension" "Handshake.msg_type" (word "client_hello") c (called "OfferedPsks" (offered_psks_plain a0) ∷
    [])
PreSharedKeyExtensionSays c (PreSharedKeyExtensionServerHello a0) = choice_says tls13 "PreSharedKeyExtension" "Handshake.msg_type" (word "server_hello") c (called "selected_identity" (Number a0) ∷
    [])

abbrev pub ProtocolVersionX0303Says : ProtocolVersionX0303 → Direction → List ℕ → Type 0
ProtocolVersionX0303Says v = constant_says tls13 "ClientHello" "legacy_version"

abbrev pub PskIdentitySays : PskIdentity → Direction → List ℕ → Type 0
PskIdentitySays v = says tls13 "PskIdentity" Empty (called "identity" (number_trees (fixed_bytes_of v.identity)) ∷
    called "obfuscated_ticket_age" (Number v.obfuscated_ticket_age) ∷
    [])

abbrev pub PskKeyExchangeModeSays : PskKeyExchangeMode → Direction → List ℕ → Type 0
PskKeyExchangeModeSays v = number_says tls13 "PskKeyExchangeMode" v.0

abbrev pub PskKeyExchangeModesSays : PskKeyExchangeModes → Direction → List ℕ → Type 0
PskKeyExchangeModesSays v = says tls13 "PskKeyExchangeModes" Empty (called "ke_modes" (trees psk_key_exchange_mode_plain (elements_of v.ke_modes)) ∷
    [])

abbrev pub ServerHelloSays : ServerHello → Direction → List ℕ → Type 0
ServerHelloSays v = says tls13 "ServerHello" Empty (called "legacy_version" (protocol_version_x0303_plain v.legacy_version) ∷
    called "random" (number_trees v.random) ∷
    called "legacy_session_id_echo" (number_trees (fixed_bytes_of v.legacy_session_id_echo)) ∷
    called "cipher_suite" (number_trees v.cipher_suite) ∷
    called "legacy_compression_method" (legacy_compression_method_x00_plain v.legacy_compression_method) ∷
    called "extensions" (trees extension_plain (elements_of v.extensions)) ∷
    [])

abbrev pub SignatureSchemeSays : SignatureScheme → Direction → List ℕ → Type 0
SignatureSchemeSays v = number_says tls13 "SignatureScheme" v.0

abbrev pub SignatureSchemeListSays : SignatureSchemeList → Direction → List ℕ → Type 0
SignatureSchemeListSays v = says tls13 "SignatureSchemeList" Empty (called "supported_signature_algorithms" (trees signature_scheme_plain (elements_of v.supported_signature_algorithms)) ∷
    [])

abbrev pub SupportedVersionsSays : Tree → SupportedVersions → Direction → List ℕ → Type 0
SupportedVersionsSays c (SupportedVersionsClientHello a0) = choice_says tls13 "SupportedVersions" "Handshake.msg_type" (word "client_hello") c (called "versions" (trees Number (elements_of a0)) ∷
    [])
SupportedVersionsSays c (SupportedVersionsServerHello a0) = choice_says tls13 "SupportedVersions" "Handshake.msg_type" (word "server_hello") c (called "selected_version" (Number a0) ∷
    [])

abbrev pub TLSCiphertextSays : TLSCiphertext → Direction → List ℕ → Type 0
TLSCiphertextSays v = says tls13 "TLSCiphertext" Empty (called "opaque_type" (content_type_application_data_plain v.opaque_type) ∷
    called "legacy_record_version" (protocol_version_x0303_plain v.legacy_record_version) ∷
    called "encrypted_record" (number_trees (fixed_bytes_of v.encrypted_record)) ∷
    [])

abbrev pub TLSPlaintextSays : TLSPlaintext → Direction → List ℕ → Type 0
TLSPlaintextSays v = says tls13 "TLSPlaintext" Empty (called "type" (content_type_plain v.kind) ∷
    called "legacy_record_version" (Number v.legacy_record_version) ∷
    called "fragment" (number_trees (fixed_bytes_of v.fragment)) ∷
    [])
