-- ContentTypeData: what it stands for, its format and its law.
use Rattle.std.proofs.Common.{arith}
use Rattle.std.specs.Prelude.{ℕ}
use Rattle.tls_codec.specs.OwnMessages.{Tree, Number, Join, number_trees, Format, number_format, bytes_format, Variants, no_variant, variant, tagged_format, pair_tree, pair_format, MeetsLaws, MeetsVariantLaws, u8_meets, bytes_meets, no_variant_meets, variant_meets, tagged_meets, pair_meets}
use Rattle.tls_codec.specs.Contents.{bytes_of}
use Rattle.messages_of_each_shape.specs.declared.content_type_data.ContentTypeData.{ContentTypeData}
use Rattle.messages_of_each_shape.specs.declared.content_type_data.ContentTypeData.TheVariants.{Application, Proposal}

-- the tag of each case
abbrev pub content_type_data_tag : ContentTypeData → ℕ
content_type_data_tag (Application a0 a1) = 1
content_type_data_tag (Proposal a0 a1 a2) = 2

abbrev pub content_type_data_plain : ContentTypeData → Tree
content_type_data_plain (Application a0 a1) = Join (Number 1) (pair_tree (number_trees (bytes_of a0)) (number_trees (bytes_of a1)))
content_type_data_plain (Proposal a0 a1 a2) = Join (Number 2) (pair_tree
    (pair_tree (number_trees (bytes_of a0)) (number_trees (bytes_of a1))) (Number a2))

abbrev pub content_type_data_variants : Variants
content_type_data_variants =
    variant 1 (pair_format bytes_format bytes_format)
    (variant 2 (pair_format (pair_format bytes_format bytes_format) (number_format 1))
    no_variant)

pub content_type_data_variants_meet : MeetsVariantLaws content_type_data_variants
content_type_data_variants_meet =
    variant_meets 1 (pair_meets bytes_meets bytes_meets)
    (variant_meets 2 (pair_meets (pair_meets bytes_meets bytes_meets) u8_meets)
    no_variant_meets)

abbrev pub content_type_data_format : Format
content_type_data_format = tagged_format 1 content_type_data_variants

pub content_type_data_meets : MeetsLaws content_type_data_format
content_type_data_meets = tagged_meets 1 (omega arith) content_type_data_variants_meet
