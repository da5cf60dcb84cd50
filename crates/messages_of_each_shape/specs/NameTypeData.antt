-- NameTypeData: what it stands for, its format and its law.
use Rattle.std.specs.Prelude.{ℕ}
use Rattle.tls_codec.specs.OwnMessages.{Tree, Number, Join, number_trees, Format, number_format, bytes_format, Variants, no_variant, variant, chosen_format, EachMeetsLaws, MeetsVariantLaws, u8_meets, bytes_meets, no_variant_meets, variant_meets, chosen_meets}
use Rattle.tls_codec.specs.Contents.{bytes_of}
use Rattle.tls_codec_cases.specs.Sums.{either_variants, either_variants_meet}
use Rattle.messages_of_each_shape.specs.NameType.{name_type_selected}
use Rattle.messages_of_each_shape.specs.declared.name_type_data.NameTypeData.{NameTypeData}
use Rattle.messages_of_each_shape.specs.declared.name_type_data.NameTypeData.TheVariants.{HostName, Case7}

-- the tag of each case
abbrev pub name_type_data_tag : NameTypeData → ℕ
name_type_data_tag (HostName a0) = 0
name_type_data_tag (Case7 a0) = 7

abbrev pub name_type_data_plain : NameTypeData → Tree
name_type_data_plain (HostName a0) = Join (Number 0) (Number a0)
name_type_data_plain (Case7 a0) = Join (Number 7) (number_trees (bytes_of a0))

abbrev pub name_type_data_variants : Variants
name_type_data_variants =
    either_variants (variant 0 (number_format 1) no_variant) (variant 7 bytes_format no_variant)

pub name_type_data_variants_meet : MeetsVariantLaws name_type_data_variants
name_type_data_variants_meet =
    either_variants_meet (variant_meets 0 u8_meets no_variant_meets) (variant_meets 7 bytes_meets no_variant_meets)

abbrev pub name_type_data_format_for : Tree → Format
name_type_data_format_for c = chosen_format (name_type_selected c) name_type_data_variants

pub name_type_data_meets_for : EachMeetsLaws name_type_data_format_for
name_type_data_meets_for c = chosen_meets (name_type_selected c) name_type_data_variants_meet
