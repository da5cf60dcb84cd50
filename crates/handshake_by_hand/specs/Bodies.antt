-- What the bodies of handshake messages stand for, and their formats.
use Rattle.std.proofs.Common.{arith}
use Rattle.tls_codec.specs.OwnMessages.{Tree, Number, Empty, Join, number_trees, pair_tree, Format, number_format, nothing_format, pair_format, fixed_bytes_format, no_variant, variant, tagged_format, MeetsLaws, u16_meets, nothing_meets, pair_meets, fixed_bytes_meets, no_variant_meets, variant_meets, tagged_meets}
use Rattle.tls_codec.specs.Contents.{fixed_bytes_of}
use Rattle.tls_codec_cases.specs.Sums.{either_variants, either_variants_meet}
use Rattle.handshake_by_hand.specs.declared.certificate_verify.CertificateVerify.{CertificateVerify}
use Rattle.handshake_by_hand.specs.declared.key_update_request.KeyUpdateRequest.{KeyUpdateRequest}
use Rattle.handshake_by_hand.specs.declared.key_update_request.KeyUpdateRequest.TheVariants.{UpdateNotRequested, UpdateRequested}

abbrev pub certificate_verify_plain : CertificateVerify → Tree
certificate_verify_plain v = pair_tree (Number v.algorithm) (number_trees (fixed_bytes_of v.signature))

abbrev pub certificate_verify_format : Format
certificate_verify_format = pair_format (number_format 2) (fixed_bytes_format 2)

pub certificate_verify_meets : MeetsLaws certificate_verify_format
certificate_verify_meets = pair_meets u16_meets (fixed_bytes_meets 2)

abbrev pub key_update_request_plain : KeyUpdateRequest → Tree
key_update_request_plain UpdateNotRequested = Join (Number 0) Empty
key_update_request_plain UpdateRequested = Join (Number 1) Empty

abbrev pub key_update_request_format : Format
key_update_request_format = tagged_format 1 (either_variants (variant 0 nothing_format no_variant) (variant 1 nothing_format no_variant))

pub key_update_request_meets : MeetsLaws key_update_request_format
key_update_request_meets =
    tagged_meets 1 (omega arith) (either_variants_meet (variant_meets 0 nothing_meets no_variant_meets)
    (variant_meets 1 nothing_meets no_variant_meets))
