-- VersionData: what it stands for, its format and its law.
use Rattle.std.proofs.Common.{arith}
use Rattle.std.specs.Prelude.{ℕ}
use Rattle.tls_codec.specs.OwnMessages.{Tree, Number, Empty, Join, number_trees, Format, number_format, nothing_format, bytes_format, Variants, no_variant, variant, tagged_format, pair_tree, pair_format, MeetsLaws, MeetsVariantLaws, u8_meets, nothing_meets, bytes_meets, no_variant_meets, variant_meets, tagged_meets, pair_meets}
use Rattle.tls_codec.specs.Contents.{bytes_of}
use Rattle.tls_codec_cases.specs.Sums.{either_variants, either_variants_meet}
use Rattle.tls_codec_cases.specs.Enclosed.{fixed_enclosed_format, fixed_enclosed_meets}
use Rattle.messages_of_each_shape.specs.declared.version_data.VersionData.{VersionData}
use Rattle.messages_of_each_shape.specs.declared.version_data.VersionData.TheVariants.{Case7, Case9, Case11}

-- the tag of each case
abbrev pub version_data_tag : VersionData → ℕ
version_data_tag (Case7 a0 a1) = 7
version_data_tag Case9 = 9
version_data_tag (Case11 a0) = 11

abbrev pub version_data_plain : VersionData → Tree
version_data_plain (Case7 a0 a1) = Join (Number 7) (pair_tree (Number a0) (number_trees (bytes_of a1)))
version_data_plain Case9 = Join (Number 9) Empty
version_data_plain (Case11 a0) = Join (Number 11) (number_trees (bytes_of a0))

abbrev pub version_data_variants : Variants
version_data_variants =
    either_variants (either_variants (variant 7 (fixed_enclosed_format 2 (pair_format (number_format 1) bytes_format)) no_variant)
    (variant 9 (fixed_enclosed_format 2 nothing_format) no_variant)) (variant 11 (fixed_enclosed_format 2 bytes_format) no_variant)

pub version_data_variants_meet : MeetsVariantLaws version_data_variants
version_data_variants_meet =
    either_variants_meet (either_variants_meet (variant_meets 7 (fixed_enclosed_meets 2 (omega arith) (pair_meets u8_meets bytes_meets))
    no_variant_meets) (variant_meets 9 (fixed_enclosed_meets 2 (omega arith) nothing_meets) no_variant_meets))
    (variant_meets 11 (fixed_enclosed_meets 2 (omega arith) bytes_meets) no_variant_meets)

abbrev pub version_data_format : Format
version_data_format = tagged_format 2 version_data_variants

pub version_data_meets : MeetsLaws version_data_format
version_data_meets = tagged_meets 2 (omega arith) version_data_variants_meet
