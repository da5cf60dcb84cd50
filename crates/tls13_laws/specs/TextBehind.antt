-- The text, line by line: tls13.tls, from line 210.
use Rattle.std.specs.Prelude.{ℕ, List, [], ◌∷◌}
use Rattle.tls_presentation.specs.Cut.{lines}

abbrev pub text_behind : List ℕ
text_behind = lines (
    "      struct {" ∷
    "          PskKeyExchangeMode ke_modes<1..255>;" ∷
    "      } PskKeyExchangeModes;" ∷
    "" ∷
    "      struct {} Empty;" ∷
    "" ∷
    "      struct {" ∷
    "          select (Handshake.msg_type) {" ∷
    "              case new_session_ticket:   uint32 max_early_data_size;" ∷
    "              case client_hello:         Empty;" ∷
    "              case encrypted_extensions: Empty;" ∷
    "          };" ∷
    "      } EarlyDataIndication;" ∷
    "" ∷
    "      struct {" ∷
    "          opaque identity<1..2^16-1>;" ∷
    "          uint32 obfuscated_ticket_age;" ∷
    "      } PskIdentity;" ∷
    "" ∷
    "      opaque PskBinderEntry<32..255>;" ∷
    "" ∷
    "      struct {" ∷
    "          PskIdentity identities<7..2^16-1>;" ∷
    "          PskBinderEntry binders<33..2^16-1>;" ∷
    "      } OfferedPsks;" ∷
    "" ∷
    "      struct {" ∷
    "          select (Handshake.msg_type) {" ∷
    "              case client_hello: OfferedPsks;" ∷
    "              case server_hello: uint16 selected_identity;" ∷
    "          };" ∷
    "      } PreSharedKeyExtension;" ∷
    "" ∷
    "// ---- appendix B.3.1.1, Version Extension" ∷
    "" ∷
    "      struct {" ∷
    "          select (Handshake.msg_type) {" ∷
    "              case client_hello:" ∷
    "                   ProtocolVersion versions<2..254>;" ∷
    "" ∷
    "              case server_hello: /* and HelloRetryRequest */" ∷
    "                   ProtocolVersion selected_version;" ∷
    "          };" ∷
    "      } SupportedVersions;" ∷
    "" ∷
    "// ---- appendix B.3.1.2, Cookie Extension" ∷
    "" ∷
    "      struct {" ∷
    "          opaque cookie<1..2^16-1>;" ∷
    "      } Cookie;" ∷
    "" ∷
    "// ---- appendix B.3.1.3, Signature Algorithm Extension" ∷
    "" ∷
    "      enum {" ∷
    "          /* RSASSA-PKCS1-v1_5 algorithms */" ∷
    "          rsa_pkcs1_sha256(0x0401)," ∷
    "          rsa_pkcs1_sha384(0x0501)," ∷
    "          rsa_pkcs1_sha512(0x0601)," ∷
    "" ∷
    "          /* ECDSA algorithms */" ∷
    "          ecdsa_secp256r1_sha256(0x0403)," ∷
    "          ecdsa_secp384r1_sha384(0x0503)," ∷
    "          ecdsa_secp521r1_sha512(0x0603)," ∷
    "" ∷
    "          /* RSASSA-PSS algorithms with public key OID rsaEncryption */" ∷
    "          rsa_pss_rsae_sha256(0x0804)," ∷
    "          rsa_pss_rsae_sha384(0x0805)," ∷
    "          rsa_pss_rsae_sha512(0x0806)," ∷
    "" ∷
    "          /* EdDSA algorithms */" ∷
    "          ed25519(0x0807)," ∷
    "          ed448(0x0808)," ∷
    "" ∷
    "          /* RSASSA-PSS algorithms with public key OID RSASSA-PSS */" ∷
    "          rsa_pss_pss_sha256(0x0809)," ∷
    "          rsa_pss_pss_sha384(0x080a)," ∷
    "          rsa_pss_pss_sha512(0x080b)," ∷
    "" ∷
    "          /* Legacy algorithms */" ∷
    "          rsa_pkcs1_sha1(0x0201)," ∷
    "          ecdsa_sha1(0x0203)," ∷
    "" ∷
    "          /* Reserved Code Points */" ∷
    "          obsolete_RESERVED(0x0000..0x0200)," ∷
    "          dsa_sha1_RESERVED(0x0202)," ∷
    "          obsolete_RESERVED(0x0204..0x0400)," ∷
    "          dsa_sha256_RESERVED(0x0402)," ∷
    "          obsolete_RESERVED(0x0404..0x0500)," ∷
    "          dsa_sha384_RESERVED(0x0502)," ∷
    "          obsolete_RESERVED(0x0504..0x0600)," ∷
    "          dsa_sha512_RESERVED(0x0602)," ∷
    "          obsolete_RESERVED(0x0604..0x06FF)," ∷
    "          private_use(0xFE00..0xFFFF)," ∷
    "          (0xFFFF)" ∷
    "      } SignatureScheme;" ∷
    "" ∷
    "      struct {" ∷
    "          SignatureScheme supported_signature_algorithms<2..2^16-2>;" ∷
    "      } SignatureSchemeList;" ∷
    "" ∷
    "// ---- appendix B.3.1.4, Supported Groups Extension" ∷
    "" ∷
    "      enum {" ∷
    "          unallocated_RESERVED(0x0000)," ∷
    "" ∷
    "          /* Elliptic Curve Groups (ECDHE) */" ∷
    "          obsolete_RESERVED(0x0001..0x0016)," ∷
    "          secp256r1(0x0017), secp384r1(0x0018), secp521r1(0x0019)," ∷
    "          obsolete_RESERVED(0x001A..0x001C)," ∷
    "          x25519(0x001D), x448(0x001E)," ∷
    "" ∷
    "          /* Finite Field Groups (DHE) */" ∷
    "          ffdhe2048(0x0100), ffdhe3072(0x0101), ffdhe4096(0x0102)," ∷
    "          ffdhe6144(0x0103), ffdhe8192(0x0104)," ∷
    "" ∷
    "          /* Reserved Code Points */" ∷
    "          ffdhe_private_use(0x01FC..0x01FF)," ∷
    "          ecdhe_private_use(0xFE00..0xFEFF)," ∷
    "          obsolete_RESERVED(0xFF01..0xFF02)," ∷
    "          (0xFFFF)" ∷
    "      } NamedGroup;" ∷
    "" ∷
    "      struct {" ∷
    "          NamedGroup named_group_list<2..2^16-1>;" ∷
    "      } NamedGroupList;" ∷
    "" ∷
    "// ---- appendix B.3.2, Server Parameters Messages" ∷
    "" ∷
    "      opaque DistinguishedName<1..2^16-1>;" ∷
    "" ∷
    "      struct {" ∷
    "          DistinguishedName authorities<3..2^16-1>;" ∷
    "      } CertificateAuthoritiesExtension;" ∷
    "" ∷
    "      struct {" ∷
    "          opaque certificate_extension_oid<1..2^8-1>;" ∷
    "          opaque certificate_extension_values<0..2^16-1>;" ∷
    "      } OIDFilter;" ∷
    "" ∷
    "      struct {" ∷
    "          OIDFilter filters<0..2^16-1>;" ∷
    "      } OIDFilterExtension;" ∷
    "" ∷
    "      struct {} PostHandshakeAuth;" ∷
    "" ∷
    "      struct {" ∷
    "          Extension extensions<0..2^16-1>;" ∷
    "      } EncryptedExtensions;" ∷
    "" ∷
    "      struct {" ∷
    "          opaque certificate_request_context<0..2^8-1>;" ∷
    "          Extension extensions<2..2^16-1>;" ∷
    "      } CertificateRequest;" ∷
    "" ∷
    "// ---- appendix B.3.3, Authentication Messages" ∷
    "" ∷
    "      enum {" ∷
    "          X509(0)," ∷
    "          OpenPGP_RESERVED(1)," ∷
    "          RawPublicKey(2)," ∷
    "          (255)" ∷
    "      } CertificateType;" ∷
    "" ∷
    "      struct {" ∷
    "          select (certificate_type) {" ∷
    "              case RawPublicKey:" ∷
    "                /* From RFC 7250 ASN.1_subjectPublicKeyInfo */" ∷
    "                opaque ASN1_subjectPublicKeyInfo<1..2^24-1>;" ∷
    "" ∷
    "              case X509:" ∷
    "                opaque cert_data<1..2^24-1>;" ∷
    "          };" ∷
    "          Extension extensions<0..2^16-1>;" ∷
    "      } CertificateEntry;" ∷
    "" ∷
    "      struct {" ∷
    "          opaque certificate_request_context<0..2^8-1>;" ∷
    "          CertificateEntry certificate_list<0..2^24-1>;" ∷
    "      } Certificate;" ∷
    "" ∷
    "      struct {" ∷
    "          SignatureScheme algorithm;" ∷
    "          opaque signature<0..2^16-1>;" ∷
    "      } CertificateVerify;" ∷
    "" ∷
    "      struct {" ∷
    "          opaque verify_data[Hash.length];" ∷
    "      } Finished;" ∷
    "" ∷
    "// ---- appendix B.3.4, Ticket Establishment" ∷
    "" ∷
    "      struct {" ∷
    "          uint32 ticket_lifetime;" ∷
    "          uint32 ticket_age_add;" ∷
    "          opaque ticket_nonce<0..255>;" ∷
    "          opaque ticket<1..2^16-1>;" ∷
    "          Extension extensions<0..2^16-2>;" ∷
    "      } NewSessionTicket;" ∷
    "" ∷
    "// ---- appendix B.3.5, Updating Keys" ∷
    "" ∷
    "      struct {} EndOfEarlyData;" ∷
    "" ∷
    "      enum {" ∷
    "          update_not_requested(0), update_requested(1), (255)" ∷
    "      } KeyUpdateRequest;" ∷
    "" ∷
    "      struct {" ∷
    "          KeyUpdateRequest request_update;" ∷
    "      } KeyUpdate;" ∷
    [])
