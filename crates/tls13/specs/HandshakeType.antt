-- HandshakeType: what it stands for, its format and its law.
use Rattle.std.proofs.Common.{arith}
use Rattle.std.specs.Prelude.{◌≡◌, ◌==◌, ◌||◌, ℕ, Bool, true, refl, List, codes}
use Rattle.tls_codec.specs.OwnMessages.{Tree, Number, Empty, Join, Format, values_format, MeetsLaws, tagged_meets, values_meet}
use Rattle.tls13.specs.declared.handshake_type.HandshakeType.{HandshakeType}
use Rattle.tls13.specs.declared.handshake_type.HandshakeType.TheVariants.{HelloRequestReserved, ClientHello, ServerHello, HelloVerifyRequestReserved, NewSessionTicket, EndOfEarlyData, HelloRetryRequestReserved, EncryptedExtensions, Certificate, ServerKeyExchangeReserved, CertificateRequest, ServerHelloDoneReserved, CertificateVerify, ClientKeyExchangeReserved, Finished, CertificateUrlReserved, CertificateStatusReserved, SupplementalDataReserved, KeyUpdate, MessageHash}

-- the number of each value
abbrev pub handshake_type_code : HandshakeType → ℕ
handshake_type_code HelloRequestReserved = 0
handshake_type_code ClientHello = 1
handshake_type_code ServerHello = 2
handshake_type_code HelloVerifyRequestReserved = 3
handshake_type_code NewSessionTicket = 4
handshake_type_code EndOfEarlyData = 5
handshake_type_code HelloRetryRequestReserved = 6
handshake_type_code EncryptedExtensions = 8
handshake_type_code Certificate = 11
handshake_type_code ServerKeyExchangeReserved = 12
handshake_type_code CertificateRequest = 13
handshake_type_code ServerHelloDoneReserved = 14
handshake_type_code CertificateVerify = 15
handshake_type_code ClientKeyExchangeReserved = 16
handshake_type_code Finished = 20
handshake_type_code CertificateUrlReserved = 21
handshake_type_code CertificateStatusReserved = 22
handshake_type_code SupplementalDataReserved = 23
handshake_type_code KeyUpdate = 24
handshake_type_code MessageHash = 254

-- the name of each value
abbrev pub handshake_type_name : HandshakeType → List ℕ
handshake_type_name HelloRequestReserved = codes "hello_request_RESERVED"
handshake_type_name ClientHello = codes "client_hello"
handshake_type_name ServerHello = codes "server_hello"
handshake_type_name HelloVerifyRequestReserved = codes "hello_verify_request_RESERVED"
handshake_type_name NewSessionTicket = codes "new_session_ticket"
handshake_type_name EndOfEarlyData = codes "end_of_early_data"
handshake_type_name HelloRetryRequestReserved = codes "hello_retry_request_RESERVED"
handshake_type_name EncryptedExtensions = codes "encrypted_extensions"
handshake_type_name Certificate = codes "certificate"
handshake_type_name ServerKeyExchangeReserved = codes "server_key_exchange_RESERVED"
handshake_type_name CertificateRequest = codes "certificate_request"
handshake_type_name ServerHelloDoneReserved = codes "server_hello_done_RESERVED"
handshake_type_name CertificateVerify = codes "certificate_verify"
handshake_type_name ClientKeyExchangeReserved = codes "client_key_exchange_RESERVED"
handshake_type_name Finished = codes "finished"
handshake_type_name CertificateUrlReserved = codes "certificate_url_RESERVED"
handshake_type_name CertificateStatusReserved = codes "certificate_status_RESERVED"
handshake_type_name SupplementalDataReserved = codes "supplemental_data_RESERVED"
handshake_type_name KeyUpdate = codes "key_update"
handshake_type_name MessageHash = codes "message_hash"

-- whether a value has this number
abbrev pub handshake_type_has : ℕ → Bool
handshake_type_has n = (n == 0) || ((n == 1) || ((n == 2) || ((n == 3)
    || ((n == 4) || ((n == 5) || ((n == 6) || ((n == 8) || ((n == 11) || ((n == 12)
    || ((n == 13) || ((n == 14) || ((n == 15) || ((n == 16) || ((n == 20)
    || ((n == 21) || ((n == 22) || ((n == 23) || ((n == 24) || (n == 254)))))))))))))))))))

pub handshake_type_known : (v : HandshakeType) → handshake_type_has (handshake_type_code v) ≡ true
handshake_type_known HelloRequestReserved = refl
handshake_type_known ClientHello = refl
handshake_type_known ServerHello = refl
handshake_type_known HelloVerifyRequestReserved = refl
handshake_type_known NewSessionTicket = refl
handshake_type_known EndOfEarlyData = refl
handshake_type_known HelloRetryRequestReserved = refl
handshake_type_known EncryptedExtensions = refl
handshake_type_known Certificate = refl
handshake_type_known ServerKeyExchangeReserved = refl
handshake_type_known CertificateRequest = refl
handshake_type_known ServerHelloDoneReserved = refl
handshake_type_known CertificateVerify = refl
handshake_type_known ClientKeyExchangeReserved = refl
handshake_type_known Finished = refl
handshake_type_known CertificateUrlReserved = refl
handshake_type_known CertificateStatusReserved = refl
handshake_type_known SupplementalDataReserved = refl
handshake_type_known KeyUpdate = refl
handshake_type_known MessageHash = refl

abbrev pub handshake_type_plain : HandshakeType → Tree
handshake_type_plain v = Join (Number (handshake_type_code v)) Empty

abbrev pub handshake_type_format : Format
handshake_type_format = values_format 1 handshake_type_has

pub handshake_type_meets : MeetsLaws handshake_type_format
handshake_type_meets = tagged_meets 1 (omega arith) (values_meet handshake_type_has)

-- the number of a value, from what the value stands for
abbrev pub handshake_type_selected : Tree → ℕ
handshake_type_selected (Join (Number tag) vs) = tag
handshake_type_selected _ = 0
