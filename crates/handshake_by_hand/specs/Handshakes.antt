-- What a handshake message stands for, its type and its body, and its format: each body fills its length.
use Rattle.std.proofs.Common.{arith}
use Rattle.tls_codec.specs.OwnMessages.{Tree, Number, Empty, Join, number_trees, Format, nothing_format, fixed_bytes_format, Variants, no_variant, variant, tagged_format, MeetsLaws, MeetsVariantLaws, nothing_meets, fixed_bytes_meets, no_variant_meets, variant_meets, tagged_meets}
use Rattle.tls_codec.specs.Contents.{fixed_bytes_of}
use Rattle.tls_codec_cases.specs.Sums.{either_variants, either_variants_meet}
use Rattle.tls_codec_cases.specs.Others.{others, others_meet}
use Rattle.tls_codec_cases.specs.Enclosed.{fixed_enclosed_format, fixed_enclosed_meets}
use Rattle.handshake_by_hand.specs.Bodies.{certificate_verify_format, certificate_verify_meets, certificate_verify_plain, key_update_request_format, key_update_request_meets, key_update_request_plain}
use Rattle.handshake_by_hand.specs.declared.handshake.Handshake.{Handshake}
use Rattle.handshake_by_hand.specs.declared.handshake.Handshake.TheVariants.{EndOfEarlyData, CertificateVerify, Finished, KeyUpdate, Unknown}

abbrev pub handshake_plain : Handshake → Tree
handshake_plain EndOfEarlyData = Join (Number 5) Empty
handshake_plain (CertificateVerify body) = Join (Number 15) (certificate_verify_plain body)
handshake_plain (Finished verify_data) = Join (Number 20) (number_trees (fixed_bytes_of verify_data))
handshake_plain (KeyUpdate request) = Join (Number 24) (key_update_request_plain request)
handshake_plain (Unknown other) = Join (Number other.tag) (number_trees (fixed_bytes_of other.parts))

-- each body in its length; of any other type it is bytes
abbrev pub handshake_variants : Variants
handshake_variants =
    either_variants
    (either_variants
    (either_variants (variant 5 (fixed_enclosed_format 3 nothing_format) no_variant)
    (variant 15 (fixed_enclosed_format 3 certificate_verify_format) no_variant))
    (either_variants (variant 20 (fixed_bytes_format 3) no_variant)
    (variant 24 (fixed_enclosed_format 3 key_update_request_format) no_variant)))
    (others 255 (fixed_bytes_format 3))

pub handshake_variants_meet : MeetsVariantLaws handshake_variants
handshake_variants_meet =
    either_variants_meet
    (either_variants_meet
    (either_variants_meet (variant_meets 5 (fixed_enclosed_meets 3 (omega arith) nothing_meets) no_variant_meets)
    (variant_meets 15 (fixed_enclosed_meets 3 (omega arith) certificate_verify_meets) no_variant_meets))
    (either_variants_meet (variant_meets 20 (fixed_bytes_meets 3) no_variant_meets)
    (variant_meets 24 (fixed_enclosed_meets 3 (omega arith) key_update_request_meets) no_variant_meets)))
    (others_meet 255 (fixed_bytes_meets 3))

abbrev pub handshake_format : Format
handshake_format = tagged_format 1 handshake_variants

pub handshake_meets : MeetsLaws handshake_format
handshake_meets = tagged_meets 1 (omega arith) handshake_variants_meet
