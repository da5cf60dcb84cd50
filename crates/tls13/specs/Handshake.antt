-- Handshake: what it stands for, its format and its law.
use Rattle.std.proofs.Common.{arith}
use Rattle.std.specs.Prelude.{ℕ}
use Rattle.tls_codec.specs.OwnMessages.{Tree, Number, Join, number_trees, Format, fixed_bytes_format, Variants, no_variant, variant, tagged_format, MeetsLaws, MeetsVariantLaws, fixed_bytes_meets, no_variant_meets, variant_meets, tagged_meets}
use Rattle.tls_codec.specs.Contents.{fixed_bytes_of}
use Rattle.tls_codec_cases.specs.Sums.{either_variants, either_variants_meet}
use Rattle.tls_codec_cases.specs.Enclosed.{fixed_enclosed_format, fixed_enclosed_meets}
use Rattle.tls13.specs.ClientHello.{client_hello_plain, client_hello_format, client_hello_meets}
use Rattle.tls13.specs.ServerHello.{server_hello_plain, server_hello_format, server_hello_meets}
use Rattle.tls13.specs.EndOfEarlyData.{end_of_early_data_plain, end_of_early_data_format, end_of_early_data_meets}
use Rattle.tls13.specs.EncryptedExtensions.{encrypted_extensions_plain, encrypted_extensions_format, encrypted_extensions_meets}
use Rattle.tls13.specs.CertificateRequest.{certificate_request_plain, certificate_request_format, certificate_request_meets}
use Rattle.tls13.specs.Certificate.{certificate_plain, certificate_format, certificate_meets}
use Rattle.tls13.specs.CertificateVerify.{certificate_verify_plain, certificate_verify_format, certificate_verify_meets}
use Rattle.tls13.specs.NewSessionTicket.{new_session_ticket_plain, new_session_ticket_format, new_session_ticket_meets}
use Rattle.tls13.specs.KeyUpdate.{key_update_plain, key_update_format, key_update_meets}
use Rattle.tls13.specs.declared.handshake.Handshake.{Handshake}
use Rattle.tls13.specs.declared.handshake.Handshake.TheVariants.{ClientHello, ServerHello, EndOfEarlyData, EncryptedExtensions, CertificateRequest, Certificate, CertificateVerify, Finished, NewSessionTicket, KeyUpdate}

-- the tag of each case
abbrev pub handshake_tag : Handshake → ℕ
handshake_tag (ClientHello a0) = 1
handshake_tag (ServerHello a0) = 2
handshake_tag (EndOfEarlyData a0) = 5
handshake_tag (EncryptedExtensions a0) = 8
handshake_tag (CertificateRequest a0) = 13
handshake_tag (Certificate a0) = 11
handshake_tag (CertificateVerify a0) = 15
handshake_tag (Finished a0) = 20
handshake_tag (NewSessionTicket a0) = 4
handshake_tag (KeyUpdate a0) = 24

abbrev pub handshake_plain : Handshake → Tree
handshake_plain (ClientHello a0) = Join (Number 1) (client_hello_plain a0)
handshake_plain (ServerHello a0) = Join (Number 2) (server_hello_plain a0)
handshake_plain (EndOfEarlyData a0) = Join (Number 5) (end_of_early_data_plain a0)
handshake_plain (EncryptedExtensions a0) = Join (Number 8) (encrypted_extensions_plain a0)
handshake_plain (CertificateRequest a0) = Join (Number 13) (certificate_request_plain a0)
handshake_plain (Certificate a0) = Join (Number 11) (certificate_plain a0)
handshake_plain (CertificateVerify a0) = Join (Number 15) (certificate_verify_plain a0)
handshake_plain (Finished a0) = Join (Number 20) (number_trees (fixed_bytes_of a0))
handshake_plain (NewSessionTicket a0) = Join (Number 4) (new_session_ticket_plain a0)
handshake_plain (KeyUpdate a0) = Join (Number 24) (key_update_plain a0)

abbrev pub handshake_variants : Variants
handshake_variants =
    either_variants (either_variants (either_variants (either_variants (variant 1 (fixed_enclosed_format 3 client_hello_format) no_variant)
    (variant 2 (fixed_enclosed_format 3 server_hello_format) no_variant))
    (either_variants (variant 5 (fixed_enclosed_format 3 end_of_early_data_format) no_variant)
    (variant 8 (fixed_enclosed_format 3 encrypted_extensions_format) no_variant)))
    (either_variants (either_variants (variant 13 (fixed_enclosed_format 3 certificate_request_format) no_variant)
    (variant 11 (fixed_enclosed_format 3 certificate_format) no_variant))
    (either_variants (variant 15 (fixed_enclosed_format 3 certificate_verify_format) no_variant)
    (variant 20 (fixed_bytes_format 3) no_variant)))) (either_variants
    (variant 4 (fixed_enclosed_format 3 new_session_ticket_format) no_variant)
    (variant 24 (fixed_enclosed_format 3 key_update_format) no_variant))

pub handshake_variants_meet : MeetsVariantLaws handshake_variants
handshake_variants_meet =
    either_variants_meet (either_variants_meet (either_variants_meet (either_variants_meet
    (variant_meets 1 (fixed_enclosed_meets 3 (omega arith) client_hello_meets) no_variant_meets)
    (variant_meets 2 (fixed_enclosed_meets 3 (omega arith) server_hello_meets) no_variant_meets))
    (either_variants_meet (variant_meets 5 (fixed_enclosed_meets 3 (omega arith) end_of_early_data_meets) no_variant_meets)
    (variant_meets 8 (fixed_enclosed_meets 3 (omega arith) encrypted_extensions_meets) no_variant_meets)))
    (either_variants_meet (either_variants_meet (variant_meets 13 (fixed_enclosed_meets 3 (omega arith) certificate_request_meets)
    no_variant_meets) (variant_meets 11 (fixed_enclosed_meets 3 (omega arith) certificate_meets) no_variant_meets))
    (either_variants_meet (variant_meets 15 (fixed_enclosed_meets 3 (omega arith) certificate_verify_meets) no_variant_meets)
    (variant_meets 20 (fixed_bytes_meets 3) no_variant_meets)))) (either_variants_meet
    (variant_meets 4 (fixed_enclosed_meets 3 (omega arith) new_session_ticket_meets) no_variant_meets)
    (variant_meets 24 (fixed_enclosed_meets 3 (omega arith) key_update_meets) no_variant_meets))

abbrev pub handshake_format : Format
handshake_format = tagged_format 1 handshake_variants

pub handshake_meets : MeetsLaws handshake_format
handshake_meets = tagged_meets 1 (omega arith) handshake_variants_meet
