-- PreSharedKeyExtension: what it stands for, its format and its law.
use Rattle.std.specs.Prelude.{ℕ}
use Rattle.tls_codec.specs.OwnMessages.{Tree, Number, Join, Format, number_format, Variants, no_variant, variant, chosen_format, EachMeetsLaws, MeetsVariantLaws, u16_meets, no_variant_meets, variant_meets, chosen_meets}
use Rattle.tls_codec_cases.specs.Sums.{either_variants, either_variants_meet}
use Rattle.tls13.specs.OfferedPsks.{offered_psks_plain, offered_psks_format, offered_psks_meets}
use Rattle.tls13.specs.HandshakeType.{handshake_type_selected}
use Rattle.tls13.specs.declared.pre_shared_key_extension.PreSharedKeyExtension.{PreSharedKeyExtension}
use Rattle.tls13.specs.declared.pre_shared_key_extension.PreSharedKeyExtension.TheVariants.{ClientHello, ServerHello}

-- the tag of each case
abbrev pub pre_shared_key_extension_tag : PreSharedKeyExtension → ℕ
pre_shared_key_extension_tag (ClientHello a0) = 1
pre_shared_key_extension_tag (ServerHello a0) = 2

abbrev pub pre_shared_key_extension_plain : PreSharedKeyExtension → Tree
pre_shared_key_extension_plain (ClientHello a0) = Join (Number 1) (offered_psks_plain a0)
pre_shared_key_extension_plain (ServerHello a0) = Join (Number 2) (Number a0)

abbrev pub pre_shared_key_extension_variants : Variants
pre_shared_key_extension_variants =
    either_variants (variant 1 offered_psks_format no_variant) (variant 2 (number_format 2) no_variant)

pub pre_shared_key_extension_variants_meet : MeetsVariantLaws pre_shared_key_extension_variants
pre_shared_key_extension_variants_meet =
    either_variants_meet (variant_meets 1 offered_psks_meets no_variant_meets) (variant_meets 2 u16_meets no_variant_meets)

abbrev pub pre_shared_key_extension_format_for : Tree → Format
pre_shared_key_extension_format_for c = chosen_format (handshake_type_selected c) pre_shared_key_extension_variants

pub pre_shared_key_extension_meets_for : EachMeetsLaws pre_shared_key_extension_format_for
pre_shared_key_extension_meets_for c = chosen_meets (handshake_type_selected c) pre_shared_key_extension_variants_meet
