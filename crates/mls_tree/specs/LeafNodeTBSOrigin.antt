-- LeafNodeTBSOrigin: what it stands for, its format and its law.
use Rattle.std.proofs.Common.{arith}
use Rattle.std.specs.Prelude.{ℕ}
use Rattle.tls_codec.specs.OwnMessages.{Tree, Number, Join, trees, number_trees, Format, number_format, list_format, bytes_format, Variants, no_variant, variant, tagged_format, pair_tree, pair_format, MeetsLaws, MeetsVariantLaws, u32_meets, list_meets, bytes_meets, no_variant_meets, variant_meets, tagged_meets, pair_meets}
use Rattle.tls_codec.specs.Contents.{bytes_of}
use Rattle.mls_tree.specs.Lifetime.{lifetime_plain, lifetime_format, lifetime_meets}
use Rattle.mls_tree.specs.Extension.{extension_plain, extension_format, extension_meets}
use Rattle.mls_tree.specs.declared.leaf_node_tbs_origin.LeafNodeTBSOrigin.{LeafNodeTBSOrigin}
use Rattle.mls_tree.specs.declared.leaf_node_tbs_origin.LeafNodeTBSOrigin.TheVariants.{KeyPackage, Update, Commit}

-- the tag of each case
abbrev pub leaf_node_tbs_origin_tag : LeafNodeTBSOrigin → ℕ
leaf_node_tbs_origin_tag (KeyPackage a0 a1) = 1
leaf_node_tbs_origin_tag (Update a0 a1 a2) = 2
leaf_node_tbs_origin_tag (Commit a0 a1 a2 a3) = 3

abbrev pub leaf_node_tbs_origin_plain : LeafNodeTBSOrigin → Tree
leaf_node_tbs_origin_plain (KeyPackage a0 a1) = Join (Number 1) (pair_tree (lifetime_plain a0.now) (trees extension_plain a1.now.items))
leaf_node_tbs_origin_plain (Update a0 a1 a2) = Join (Number 2) (pair_tree
    (pair_tree (trees extension_plain a0.now.items) (number_trees (bytes_of a1.now))) (Number a2.now))
leaf_node_tbs_origin_plain (Commit a0 a1 a2 a3) = Join (Number 3) (pair_tree
    (pair_tree (number_trees (bytes_of a0.now)) (trees extension_plain a1.now.items))
    (pair_tree (number_trees (bytes_of a2.now)) (Number a3.now)))

abbrev pub leaf_node_tbs_origin_variants : Variants
leaf_node_tbs_origin_variants =
    variant 1 (pair_format lifetime_format (list_format extension_format))
    (variant 2 (pair_format (pair_format (list_format extension_format) bytes_format) (number_format 4))
    (variant 3 (pair_format (pair_format bytes_format (list_format extension_format)) (pair_format bytes_format (number_format 4)))
    no_variant))

pub leaf_node_tbs_origin_variants_meet : MeetsVariantLaws leaf_node_tbs_origin_variants
leaf_node_tbs_origin_variants_meet =
    variant_meets 1 (pair_meets lifetime_meets (list_meets extension_meets))
    (variant_meets 2 (pair_meets (pair_meets (list_meets extension_meets) bytes_meets) u32_meets)
    (variant_meets 3 (pair_meets (pair_meets bytes_meets (list_meets extension_meets)) (pair_meets bytes_meets u32_meets))
    no_variant_meets))

abbrev pub leaf_node_tbs_origin_format : Format
leaf_node_tbs_origin_format = tagged_format 1 leaf_node_tbs_origin_variants

pub leaf_node_tbs_origin_meets : MeetsLaws leaf_node_tbs_origin_format
leaf_node_tbs_origin_meets = tagged_meets 1 (omega arith) leaf_node_tbs_origin_variants_meet
