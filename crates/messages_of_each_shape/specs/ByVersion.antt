-- ByVersion: what it stands for, its format and its law.
use Rattle.std.specs.Prelude.{ℕ}
use Rattle.tls_codec.specs.OwnMessages.{Tree, Number, Empty, Join, number_trees, Format, number_format, nothing_format, bytes_format, Variants, no_variant, variant, triple_tree, triple_format, chosen_format, EachMeetsLaws, MeetsVariantLaws, u8_meets, u32_meets, nothing_meets, bytes_meets, no_variant_meets, variant_meets, triple_meets, chosen_meets}
use Rattle.tls_codec.specs.Contents.{bytes_of}
use Rattle.tls_codec_cases.specs.Sums.{either_variants, either_variants_meet}
use Rattle.tls_codec_cases.specs.Chosen.{number_of}
use Rattle.messages_of_each_shape.specs.declared.by_version.ByVersion.{ByVersion}
use Rattle.messages_of_each_shape.specs.declared.by_version.ByVersion.TheVariants.{Case1, Case2, Case3}

-- the tag of each case
abbrev pub by_version_tag : ByVersion → ℕ
by_version_tag (Case1 a0) = 1
by_version_tag (Case2 a0 a1 a2) = 2
by_version_tag Case3 = 3

abbrev pub by_version_plain : ByVersion → Tree
by_version_plain (Case1 a0) = Join (Number 1) (Number a0)
by_version_plain (Case2 a0 a1 a2) = Join (Number 2) (triple_tree (Number a0) (number_trees (bytes_of a1)) (Number a2))
by_version_plain Case3 = Join (Number 3) Empty

abbrev pub by_version_variants : Variants
by_version_variants =
    either_variants (either_variants (variant 1 (number_format 1) no_variant)
    (variant 2 (triple_format (number_format 4) bytes_format (number_format 1)) no_variant)) (variant 3 nothing_format no_variant)

pub by_version_variants_meet : MeetsVariantLaws by_version_variants
by_version_variants_meet =
    either_variants_meet (either_variants_meet (variant_meets 1 u8_meets no_variant_meets)
    (variant_meets 2 (triple_meets u32_meets bytes_meets u8_meets) no_variant_meets)) (variant_meets 3 nothing_meets no_variant_meets)

abbrev pub by_version_format_for : Tree → Format
by_version_format_for c = chosen_format (number_of c) by_version_variants

pub by_version_meets_for : EachMeetsLaws by_version_format_for
by_version_meets_for c = chosen_meets (number_of c) by_version_variants_meet
