-- What a certificate type stands for, a tag and no parts, and its format.
use Rattle.std.specs.Prelude.{ℕ}
use Rattle.std.proofs.Common.{arith}
use Rattle.tls_codec.specs.OwnMessages.{Tree, Number, Empty, Join, Format, nothing_format, Variants, no_variant, variant, tagged_format, MeetsLaws, nothing_meets, no_variant_meets, variant_meets, tagged_meets}
use Rattle.tls_codec_cases.specs.Sums.{either_variants, either_variants_meet}
use Rattle.handshake_by_hand.specs.declared.certificate_type.CertificateType.{CertificateType}
use Rattle.handshake_by_hand.specs.declared.certificate_type.CertificateType.TheVariants.{X509, RawPublicKey}

abbrev pub certificate_type_plain : CertificateType → Tree
certificate_type_plain X509 = Join (Number 0) Empty
certificate_type_plain RawPublicKey = Join (Number 2) Empty

abbrev pub certificate_type_variants : Variants
certificate_type_variants = either_variants (variant 0 nothing_format no_variant) (variant 2 nothing_format no_variant)

abbrev pub certificate_type_format : Format
certificate_type_format = tagged_format 1 certificate_type_variants

pub certificate_type_meets : MeetsLaws certificate_type_format
certificate_type_meets =
    tagged_meets 1 (omega arith) (either_variants_meet (variant_meets 0 nothing_meets no_variant_meets)
    (variant_meets 2 nothing_meets no_variant_meets))

-- the number of the type that was agreed on
abbrev pub type_number : Tree → ℕ
type_number (Join (Number tag) vs) = tag
type_number _ = 0
