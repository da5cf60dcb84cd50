-- Identity: what it stands for, its format and its law.
use Rattle.std.proofs.Common.{arith}
use Rattle.std.specs.Prelude.{ℕ}
use Rattle.tls_codec.specs.OwnMessages.{Tree, Number, Empty, Join, number_trees, option_plain, Format, number_format, option_format, nothing_format, bytes_format, Variants, no_variant, variant, tagged_format, pair_tree, triple_tree, pair_format, triple_format, MeetsLaws, MeetsVariantLaws, u32_meets, option_meets, nothing_meets, bytes_meets, no_variant_meets, variant_meets, tagged_meets, pair_meets, triple_meets}
use Rattle.tls_codec.specs.Contents.{bytes_of}
use Rattle.messages_of_each_shape.specs.NameType.{name_type_plain, name_type_format, name_type_meets}
use Rattle.messages_of_each_shape.specs.Level.{level_plain, level_format, level_meets}
use Rattle.messages_of_each_shape.specs.declared.identity.Identity.{Identity}
use Rattle.messages_of_each_shape.specs.declared.identity.Identity.TheVariants.{Full, Anonymous}

-- the tag of each case
abbrev pub identity_tag : Identity → ℕ
identity_tag (Full a0 a1 a2 a3 a4) = 4
identity_tag Anonymous = 5

abbrev pub identity_plain : Identity → Tree
identity_plain (Full a0 a1 a2 a3 a4) = Join (Number 4) (pair_tree (triple_tree (name_type_plain a0) (level_plain a1)
    (number_trees (bytes_of a2))) (pair_tree (Number a3) (option_plain (λ v. number_trees (bytes_of v)) a4)))
identity_plain Anonymous = Join (Number 5) Empty

abbrev pub identity_variants : Variants
identity_variants =
    variant 4 (pair_format (triple_format name_type_format level_format bytes_format)
    (pair_format (number_format 4) (option_format bytes_format)))
    (variant 5 nothing_format
    no_variant)

pub identity_variants_meet : MeetsVariantLaws identity_variants
identity_variants_meet =
    variant_meets 4 (pair_meets (triple_meets name_type_meets level_meets bytes_meets) (pair_meets u32_meets (option_meets bytes_meets)))
    (variant_meets 5 nothing_meets
    no_variant_meets)

abbrev pub identity_format : Format
identity_format = tagged_format 2 identity_variants

pub identity_meets : MeetsLaws identity_format
identity_meets = tagged_meets 2 (omega arith) identity_variants_meet
