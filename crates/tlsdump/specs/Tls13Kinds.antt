-- The types of TLS 1.3.
use Rattle.std.specs.Prelude.{List, [], ◌∷◌, codes}
use Rattle.tls13.specs.Alert.{alert_format}
use Rattle.tls13.specs.Certificate.{certificate_format}
use Rattle.tls13.specs.CertificateAuthoritiesExtension.{certificate_authorities_extension_format}
use Rattle.tls13.specs.CertificateEntry.{certificate_entry_format}
use Rattle.tls13.specs.CertificateRequest.{certificate_request_format}
use Rattle.tls13.specs.CertificateVerify.{certificate_verify_format}
use Rattle.tls13.specs.ClientHello.{client_hello_format}
use Rattle.tls13.specs.Cookie.{cookie_format}
use Rattle.tls13.specs.EncryptedExtensions.{encrypted_extensions_format}
use Rattle.tls13.specs.Extension.{extension_format}
use Rattle.tls13.specs.Handshake.{handshake_format}
use Rattle.tls13.specs.KeyShareClientHello.{key_share_client_hello_format}
use Rattle.tls13.specs.KeyShareEntry.{key_share_entry_format}
use Rattle.tls13.specs.KeyShareHelloRetryRequest.{key_share_hello_retry_request_format}
use Rattle.tls13.specs.KeyShareServerHello.{key_share_server_hello_format}
use Rattle.tls13.specs.KeyUpdate.{key_update_format}
use Rattle.tls13.specs.NamedGroupList.{named_group_list_format}
use Rattle.tls13.specs.NewSessionTicket.{new_session_ticket_format}
use Rattle.tls13.specs.OIDFilter.{oid_filter_format}
use Rattle.tls13.specs.OIDFilterExtension.{oid_filter_extension_format}
use Rattle.tls13.specs.OfferedPsks.{offered_psks_format}
use Rattle.tls13.specs.PskIdentity.{psk_identity_format}
use Rattle.tls13.specs.PskKeyExchangeModes.{psk_key_exchange_modes_format}
use Rattle.tls13.specs.ServerHello.{server_hello_format}
use Rattle.tls13.specs.SignatureSchemeList.{signature_scheme_list_format}
use Rattle.tls13.specs.TLSCiphertext.{tls_ciphertext_format}
use Rattle.tls13.specs.TLSPlaintext.{tls_plaintext_format}
use Rattle.tlsdump.specs.Kinds.{Kind, kind}

-- each type's name, and its format
abbrev pub tls13_kinds : List Kind
tls13_kinds =
    kind (codes "Alert") alert_format
    ∷ kind (codes "Certificate") certificate_format
    ∷ kind (codes "CertificateAuthoritiesExtension") certificate_authorities_extension_format
    ∷ kind (codes "CertificateEntry") certificate_entry_format
    ∷ kind (codes "CertificateRequest") certificate_request_format
    ∷ kind (codes "CertificateVerify") certificate_verify_format
    ∷ kind (codes "ClientHello") client_hello_format
    ∷ kind (codes "Cookie") cookie_format
    ∷ kind (codes "EncryptedExtensions") encrypted_extensions_format
    ∷ kind (codes "Extension") extension_format
    ∷ kind (codes "Handshake") handshake_format
    ∷ kind (codes "KeyShareClientHello") key_share_client_hello_format
    ∷ kind (codes "KeyShareEntry") key_share_entry_format
    ∷ kind (codes "KeyShareHelloRetryRequest") key_share_hello_retry_request_format
    ∷ kind (codes "KeyShareServerHello") key_share_server_hello_format
    ∷ kind (codes "KeyUpdate") key_update_format
    ∷ kind (codes "NamedGroupList") named_group_list_format
    ∷ kind (codes "NewSessionTicket") new_session_ticket_format
    ∷ kind (codes "OIDFilter") oid_filter_format
    ∷ kind (codes "OIDFilterExtension") oid_filter_extension_format
    ∷ kind (codes "OfferedPsks") offered_psks_format
    ∷ kind (codes "PskIdentity") psk_identity_format
    ∷ kind (codes "PskKeyExchangeModes") psk_key_exchange_modes_format
    ∷ kind (codes "ServerHello") server_hello_format
    ∷ kind (codes "SignatureSchemeList") signature_scheme_list_format
    ∷ kind (codes "TLSCiphertext") tls_ciphertext_format
    ∷ kind (codes "TLSPlaintext") tls_plaintext_format
    ∷ []
