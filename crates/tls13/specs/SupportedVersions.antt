-- SupportedVersions: what it stands for, its format and its law.
use Rattle.std.proofs.Common.{arith}
use Rattle.std.specs.Prelude.{ℕ}
use Rattle.tls_codec.specs.OwnMessages.{Tree, Number, Join, trees, Format, number_format, bounded_list_format, Variants, no_variant, variant, chosen_format, EachMeetsLaws, MeetsVariantLaws, u16_meets, bounded_list_meets, no_variant_meets, variant_meets, chosen_meets}
use Rattle.tls_codec.specs.Contents.{elements_of}
use Rattle.tls_codec_cases.specs.Sums.{either_variants, either_variants_meet}
use Rattle.tls13.specs.HandshakeType.{handshake_type_selected}
use Rattle.tls13.specs.declared.supported_versions.SupportedVersions.{SupportedVersions}
use Rattle.tls13.specs.declared.supported_versions.SupportedVersions.TheVariants.{ClientHello, ServerHello}

-- the tag of each case
abbrev pub supported_versions_tag : SupportedVersions → ℕ
supported_versions_tag (ClientHello a0) = 1
supported_versions_tag (ServerHello a0) = 2

abbrev pub supported_versions_plain : SupportedVersions → Tree
supported_versions_plain (ClientHello a0) = Join (Number 1) (trees Number (elements_of a0))
supported_versions_plain (ServerHello a0) = Join (Number 2) (Number a0)

abbrev pub supported_versions_variants : Variants
supported_versions_variants =
    either_variants (variant 1 (bounded_list_format 1 2 254 (number_format 2)) no_variant) (variant 2 (number_format 2) no_variant)

pub supported_versions_variants_meet : MeetsVariantLaws supported_versions_variants
supported_versions_variants_meet =
    either_variants_meet (variant_meets 1 (bounded_list_meets 1 2 254 (omega arith) u16_meets) no_variant_meets)
    (variant_meets 2 u16_meets no_variant_meets)

abbrev pub supported_versions_format_for : Tree → Format
supported_versions_format_for c = chosen_format (handshake_type_selected c) supported_versions_variants

pub supported_versions_meets_for : EachMeetsLaws supported_versions_format_for
supported_versions_meets_for c = chosen_meets (handshake_type_selected c) supported_versions_variants_meet
