-- The text, line by line: tls13.tls.
use Rattle.std.specs.Prelude.{ℕ, List, [], ◌∷◌, ◌++◌}
use Rattle.tls_presentation.specs.Cut.{lines}
use Rattle.tls13_laws.specs.TextBehind.{text_behind}

abbrev pub text : List ℕ
text = lines (
    "// Messages of TLS 1.3 (RFC 8446, appendix B, but for B.4), as printed. tls13.notes has what the RFC says in prose. It was written down from memory." ∷
    "" ∷
    "// ---- appendix B.1, Record Layer" ∷
    "" ∷
    "      enum {" ∷
    "          invalid(0)," ∷
    "          change_cipher_spec(20)," ∷
    "          alert(21)," ∷
    "          handshake(22)," ∷
    "          application_data(23)," ∷
    "          heartbeat(24),  /* RFC 6520 */" ∷
    "          (255)" ∷
    "      } ContentType;" ∷
    "" ∷
    "      struct {" ∷
    "          ContentType type;" ∷
    "          ProtocolVersion legacy_record_version;" ∷
    "          uint16 length;" ∷
    "          opaque fragment[TLSPlaintext.length];" ∷
    "      } TLSPlaintext;" ∷
    "" ∷
    "      struct {" ∷
    "          opaque content[TLSPlaintext.length];" ∷
    "          ContentType type;" ∷
    "          uint8 zeros[length_of_padding];" ∷
    "      } TLSInnerPlaintext;" ∷
    "" ∷
    "      struct {" ∷
    "          ContentType opaque_type = application_data; /* 23 */" ∷
    "          ProtocolVersion legacy_record_version = 0x0303; /* TLS v1.2 */" ∷
    "          uint16 length;" ∷
    "          opaque encrypted_record[TLSCiphertext.length];" ∷
    "      } TLSCiphertext;" ∷
    "" ∷
    "// ---- appendix B.2, Alert Messages" ∷
    "" ∷
    "      enum { warning(1), fatal(2), (255) } AlertLevel;" ∷
    "" ∷
    "      enum {" ∷
    "          close_notify(0)," ∷
    "          unexpected_message(10)," ∷
    "          bad_record_mac(20)," ∷
    "          decryption_failed_RESERVED(21)," ∷
    "          record_overflow(22)," ∷
    "          decompression_failure_RESERVED(30)," ∷
    "          handshake_failure(40)," ∷
    "          no_certificate_RESERVED(41)," ∷
    "          bad_certificate(42)," ∷
    "          unsupported_certificate(43)," ∷
    "          certificate_revoked(44)," ∷
    "          certificate_expired(45)," ∷
    "          certificate_unknown(46)," ∷
    "          illegal_parameter(47)," ∷
    "          unknown_ca(48)," ∷
    "          access_denied(49)," ∷
    "          decode_error(50)," ∷
    "          decrypt_error(51)," ∷
    "          export_restriction_RESERVED(60)," ∷
    "          protocol_version(70)," ∷
    "          insufficient_security(71)," ∷
    "          internal_error(80)," ∷
    "          inappropriate_fallback(86)," ∷
    "          user_canceled(90)," ∷
    "          no_renegotiation_RESERVED(100)," ∷
    "          missing_extension(109)," ∷
    "          unsupported_extension(110)," ∷
    "          certificate_unobtainable_RESERVED(111)," ∷
    "          unrecognized_name(112)," ∷
    "          bad_certificate_status_response(113)," ∷
    "          bad_certificate_hash_value_RESERVED(114)," ∷
    "          unknown_psk_identity(115)," ∷
    "          certificate_required(116)," ∷
    "          no_application_protocol(120)," ∷
    "          (255)" ∷
    "      } AlertDescription;" ∷
    "" ∷
    "      struct {" ∷
    "          AlertLevel level;" ∷
    "          AlertDescription description;" ∷
    "      } Alert;" ∷
    "" ∷
    "// ---- appendix B.3, Handshake Protocol" ∷
    "" ∷
    "      enum {" ∷
    "          hello_request_RESERVED(0)," ∷
    "          client_hello(1)," ∷
    "          server_hello(2)," ∷
    "          hello_verify_request_RESERVED(3)," ∷
    "          new_session_ticket(4)," ∷
    "          end_of_early_data(5)," ∷
    "          hello_retry_request_RESERVED(6)," ∷
    "          encrypted_extensions(8)," ∷
    "          certificate(11)," ∷
    "          server_key_exchange_RESERVED(12)," ∷
    "          certificate_request(13)," ∷
    "          server_hello_done_RESERVED(14)," ∷
    "          certificate_verify(15)," ∷
    "          client_key_exchange_RESERVED(16)," ∷
    "          finished(20)," ∷
    "          certificate_url_RESERVED(21)," ∷
    "          certificate_status_RESERVED(22)," ∷
    "          supplemental_data_RESERVED(23)," ∷
    "          key_update(24)," ∷
    "          message_hash(254)," ∷
    "          (255)" ∷
    "      } HandshakeType;" ∷
    "" ∷
    "      struct {" ∷
    "          HandshakeType msg_type;    /* handshake type */" ∷
    "          uint24 length;             /* remaining bytes in message */" ∷
    "          select (Handshake.msg_type) {" ∷
    "              case client_hello:          ClientHello;" ∷
    "              case server_hello:          ServerHello;" ∷
    "              case end_of_early_data:     EndOfEarlyData;" ∷
    "              case encrypted_extensions:  EncryptedExtensions;" ∷
    "              case certificate_request:   CertificateRequest;" ∷
    "              case certificate:           Certificate;" ∷
    "              case certificate_verify:    CertificateVerify;" ∷
    "              case finished:              Finished;" ∷
    "              case new_session_ticket:    NewSessionTicket;" ∷
    "              case key_update:            KeyUpdate;" ∷
    "          };" ∷
    "      } Handshake;" ∷
    "" ∷
    "// ---- appendix B.3.1, Key Exchange Messages" ∷
    "" ∷
    "      uint16 ProtocolVersion;" ∷
    "      opaque Random[32];" ∷
    "" ∷
    "      uint8 CipherSuite[2];    /* Cryptographic suite selector */" ∷
    "" ∷
    "      struct {" ∷
    "          ProtocolVersion legacy_version = 0x0303;    /* TLS v1.2 */" ∷
    "          Random random;" ∷
    "          opaque legacy_session_id<0..32>;" ∷
    "          CipherSuite cipher_suites<2..2^16-2>;" ∷
    "          opaque legacy_compression_methods<1..2^8-1>;" ∷
    "          Extension extensions<8..2^16-1>;" ∷
    "      } ClientHello;" ∷
    "" ∷
    "      struct {" ∷
    "          ProtocolVersion legacy_version = 0x0303;    /* TLS v1.2 */" ∷
    "          Random random;" ∷
    "          opaque legacy_session_id_echo<0..32>;" ∷
    "          CipherSuite cipher_suite;" ∷
    "          uint8 legacy_compression_method = 0;" ∷
    "          Extension extensions<6..2^16-1>;" ∷
    "      } ServerHello;" ∷
    "" ∷
    "      struct {" ∷
    "          ExtensionType extension_type;" ∷
    "          opaque extension_data<0..2^16-1>;" ∷
    "      } Extension;" ∷
    "" ∷
    "      enum {" ∷
    "          server_name(0),                             /* RFC 6066 */" ∷
    "          max_fragment_length(1),                     /* RFC 6066 */" ∷
    "          status_request(5),                          /* RFC 6066 */" ∷
    "          supported_groups(10),                       /* RFC 8422, 7919 */" ∷
    "          signature_algorithms(13),                   /* RFC 8446 */" ∷
    "          use_srtp(14),                               /* RFC 5764 */" ∷
    "          heartbeat(15),                              /* RFC 6520 */" ∷
    "          application_layer_protocol_negotiation(16), /* RFC 7301 */" ∷
    "          signed_certificate_timestamp(18),           /* RFC 6962 */" ∷
    "          client_certificate_type(19),                /* RFC 7250 */" ∷
    "          server_certificate_type(20),                /* RFC 7250 */" ∷
    "          padding(21),                                /* RFC 7685 */" ∷
    "          RESERVED(40),                               /* Used but never" ∷
    "                                                         assigned */" ∷
    "          pre_shared_key(41),                         /* RFC 8446 */" ∷
    "          early_data(42),                             /* RFC 8446 */" ∷
    "          supported_versions(43),                     /* RFC 8446 */" ∷
    "          cookie(44),                                 /* RFC 8446 */" ∷
    "          psk_key_exchange_modes(45),                 /* RFC 8446 */" ∷
    "          RESERVED(46),                               /* Used but never" ∷
    "                                                         assigned */" ∷
    "          certificate_authorities(47),                /* RFC 8446 */" ∷
    "          oid_filters(48),                            /* RFC 8446 */" ∷
    "          post_handshake_auth(49),                    /* RFC 8446 */" ∷
    "          signature_algorithms_cert(50),              /* RFC 8446 */" ∷
    "          key_share(51),                              /* RFC 8446 */" ∷
    "          (65535)" ∷
    "      } ExtensionType;" ∷
    "" ∷
    "      struct {" ∷
    "          NamedGroup group;" ∷
    "          opaque key_exchange<1..2^16-1>;" ∷
    "      } KeyShareEntry;" ∷
    "" ∷
    "      struct {" ∷
    "          KeyShareEntry client_shares<0..2^16-1>;" ∷
    "      } KeyShareClientHello;" ∷
    "" ∷
    "      struct {" ∷
    "          NamedGroup selected_group;" ∷
    "      } KeyShareHelloRetryRequest;" ∷
    "" ∷
    "      struct {" ∷
    "          KeyShareEntry server_share;" ∷
    "      } KeyShareServerHello;" ∷
    "" ∷
    "      struct {" ∷
    "          uint8 legacy_form = 4;" ∷
    "          opaque X[coordinate_length];" ∷
    "          opaque Y[coordinate_length];" ∷
    "      } UncompressedPointRepresentation;" ∷
    "" ∷
    "      enum { psk_ke(0), psk_dhe_ke(1), (255) } PskKeyExchangeMode;" ∷
    "" ∷
    []) ++ text_behind
