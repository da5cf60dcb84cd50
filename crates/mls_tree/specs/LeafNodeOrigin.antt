-- LeafNodeOrigin: what it stands for, its format and its law.
use Rattle.std.proofs.Common.{arith}
use Rattle.std.specs.Prelude.{ℕ}
use Rattle.tls_codec.specs.OwnMessages.{Tree, Number, Empty, Join, number_trees, Format, nothing_format, fields_format, bytes_format, Variants, no_variant, variant, tagged_format, MeetsLaws, MeetsVariantLaws, nothing_meets, fields_meets, bytes_meets, no_variant_meets, variant_meets, tagged_meets}
use Rattle.tls_codec.specs.Contents.{bytes_of}
use Rattle.mls_tree.specs.Lifetime.{lifetime_plain, lifetime_format, lifetime_meets}
use Rattle.mls_tree.specs.declared.leaf_node_origin.LeafNodeOrigin.{LeafNodeOrigin}
use Rattle.mls_tree.specs.declared.leaf_node_origin.LeafNodeOrigin.TheVariants.{KeyPackage, Update, Commit}

-- the tag of each case
abbrev pub leaf_node_origin_tag : LeafNodeOrigin → ℕ
leaf_node_origin_tag (KeyPackage a0) = 1
leaf_node_origin_tag Update = 2
leaf_node_origin_tag (Commit a0) = 3

abbrev pub leaf_node_origin_plain : LeafNodeOrigin → Tree
leaf_node_origin_plain (KeyPackage a0) = Join (Number 1) (Join (lifetime_plain a0) Empty)
leaf_node_origin_plain Update = Join (Number 2) Empty
leaf_node_origin_plain (Commit a0) = Join (Number 3) (Join (number_trees (bytes_of a0)) Empty)

abbrev pub leaf_node_origin_variants : Variants
leaf_node_origin_variants =
    variant 1 (fields_format lifetime_format nothing_format)
    (variant 2 nothing_format
    (variant 3 (fields_format bytes_format nothing_format)
    no_variant))

pub leaf_node_origin_variants_meet : MeetsVariantLaws leaf_node_origin_variants
leaf_node_origin_variants_meet =
    variant_meets 1 (fields_meets lifetime_meets nothing_meets)
    (variant_meets 2 nothing_meets
    (variant_meets 3 (fields_meets bytes_meets nothing_meets)
    no_variant_meets))

abbrev pub leaf_node_origin_format : Format
leaf_node_origin_format = tagged_format 1 leaf_node_origin_variants

pub leaf_node_origin_meets : MeetsLaws leaf_node_origin_format
leaf_node_origin_meets = tagged_meets 1 (omega arith) leaf_node_origin_variants_meet
