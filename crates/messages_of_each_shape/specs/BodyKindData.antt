-- BodyKindData: what it stands for, its format and its law.
use Rattle.std.specs.Prelude.{ℕ}
use Rattle.tls_codec.specs.OwnMessages.{Tree, Number, Join, number_trees, Format, number_format, bytes_format, Variants, no_variant, variant, chosen_format, EachMeetsLaws, MeetsVariantLaws, u16_meets, bytes_meets, no_variant_meets, variant_meets, chosen_meets}
use Rattle.tls_codec.specs.Contents.{bytes_of}
use Rattle.tls_codec_cases.specs.Sums.{either_variants, either_variants_meet}
use Rattle.messages_of_each_shape.specs.BodyKind.{body_kind_selected}
use Rattle.messages_of_each_shape.specs.declared.body_kind_data.BodyKindData.{BodyKindData}
use Rattle.messages_of_each_shape.specs.declared.body_kind_data.BodyKindData.TheVariants.{Chat, File}

-- the tag of each case
abbrev pub body_kind_data_tag : BodyKindData → ℕ
body_kind_data_tag (Chat a0) = 1
body_kind_data_tag (File a0) = 2

abbrev pub body_kind_data_plain : BodyKindData → Tree
body_kind_data_plain (Chat a0) = Join (Number 1) (Number a0)
body_kind_data_plain (File a0) = Join (Number 2) (number_trees (bytes_of a0))

abbrev pub body_kind_data_variants : Variants
body_kind_data_variants =
    either_variants (variant 1 (number_format 2) no_variant) (variant 2 bytes_format no_variant)

pub body_kind_data_variants_meet : MeetsVariantLaws body_kind_data_variants
body_kind_data_variants_meet =
    either_variants_meet (variant_meets 1 u16_meets no_variant_meets) (variant_meets 2 bytes_meets no_variant_meets)

abbrev pub body_kind_data_format_for : Tree → Format
body_kind_data_format_for c = chosen_format (body_kind_selected c) body_kind_data_variants

pub body_kind_data_meets_for : EachMeetsLaws body_kind_data_format_for
body_kind_data_meets_for c = chosen_meets (body_kind_selected c) body_kind_data_variants_meet
