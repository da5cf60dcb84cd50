-- EarlyDataIndication: what it stands for, its format and its law.
use Rattle.std.specs.Prelude.{ℕ}
use Rattle.tls_codec.specs.OwnMessages.{Tree, Number, Join, Format, number_format, Variants, no_variant, variant, chosen_format, EachMeetsLaws, MeetsVariantLaws, u32_meets, no_variant_meets, variant_meets, chosen_meets}
use Rattle.tls_codec_cases.specs.Sums.{either_variants, either_variants_meet}
use Rattle.tls13.specs.EmptyType.{empty_type_plain, empty_type_format, empty_type_meets}
use Rattle.tls13.specs.HandshakeType.{handshake_type_selected}
use Rattle.tls13.specs.declared.early_data_indication.EarlyDataIndication.{EarlyDataIndication}
use Rattle.tls13.specs.declared.early_data_indication.EarlyDataIndication.TheVariants.{NewSessionTicket, ClientHello, EncryptedExtensions}

-- the tag of each case
abbrev pub early_data_indication_tag : EarlyDataIndication → ℕ
early_data_indication_tag (NewSessionTicket a0) = 4
early_data_indication_tag (ClientHello a0) = 1
early_data_indication_tag (EncryptedExtensions a0) = 8

abbrev pub early_data_indication_plain : EarlyDataIndication → Tree
early_data_indication_plain (NewSessionTicket a0) = Join (Number 4) (Number a0)
early_data_indication_plain (ClientHello a0) = Join (Number 1) (empty_type_plain a0)
early_data_indication_plain (EncryptedExtensions a0) = Join (Number 8) (empty_type_plain a0)

abbrev pub early_data_indication_variants : Variants
early_data_indication_variants =
    either_variants (either_variants (variant 4 (number_format 4) no_variant) (variant 1 empty_type_format no_variant))
    (variant 8 empty_type_format no_variant)

pub early_data_indication_variants_meet : MeetsVariantLaws early_data_indication_variants
early_data_indication_variants_meet =
    either_variants_meet (either_variants_meet (variant_meets 4 u32_meets no_variant_meets)
    (variant_meets 1 empty_type_meets no_variant_meets)) (variant_meets 8 empty_type_meets no_variant_meets)

abbrev pub early_data_indication_format_for : Tree → Format
early_data_indication_format_for c = chosen_format (handshake_type_selected c) early_data_indication_variants

pub early_data_indication_meets_for : EachMeetsLaws early_data_indication_format_for
early_data_indication_meets_for c = chosen_meets (handshake_type_selected c) early_data_indication_variants_meet
