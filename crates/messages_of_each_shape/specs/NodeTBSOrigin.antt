-- NodeTBSOrigin: what it stands for, its format and its law.
use Rattle.std.proofs.Common.{arith}
use Rattle.std.specs.Prelude.{ℕ}
use Rattle.tls_codec.specs.OwnMessages.{Tree, Number, Empty, Join, number_trees, Format, number_format, nothing_format, fields_format, bytes_format, Variants, no_variant, variant, tagged_format, pair_tree, pair_format, MeetsLaws, MeetsVariantLaws, u8_meets, nothing_meets, fields_meets, bytes_meets, no_variant_meets, variant_meets, tagged_meets, pair_meets}
use Rattle.tls_codec.specs.Contents.{bytes_of}
use Rattle.messages_of_each_shape.specs.declared.node_tbs_origin.NodeTBSOrigin.{NodeTBSOrigin}
use Rattle.messages_of_each_shape.specs.declared.node_tbs_origin.NodeTBSOrigin.TheVariants.{Update, Commit, External}

-- the tag of each case
abbrev pub node_tbs_origin_tag : NodeTBSOrigin → ℕ
node_tbs_origin_tag Update = 2
node_tbs_origin_tag (Commit a0 a1) = 3
node_tbs_origin_tag (External a0) = 4

abbrev pub node_tbs_origin_plain : NodeTBSOrigin → Tree
node_tbs_origin_plain Update = Join (Number 2) Empty
node_tbs_origin_plain (Commit a0 a1) = Join (Number 3) (pair_tree (number_trees (bytes_of a0.now)) (Number a1.now))
node_tbs_origin_plain (External a0) = Join (Number 4) (Join (number_trees (bytes_of a0.now)) Empty)

abbrev pub node_tbs_origin_variants : Variants
node_tbs_origin_variants =
    variant 2 nothing_format
    (variant 3 (pair_format bytes_format (number_format 1))
    (variant 4 (fields_format bytes_format nothing_format)
    no_variant))

pub node_tbs_origin_variants_meet : MeetsVariantLaws node_tbs_origin_variants
node_tbs_origin_variants_meet =
    variant_meets 2 nothing_meets
    (variant_meets 3 (pair_meets bytes_meets u8_meets)
    (variant_meets 4 (fields_meets bytes_meets nothing_meets)
    no_variant_meets))

abbrev pub node_tbs_origin_format : Format
node_tbs_origin_format = tagged_format 1 node_tbs_origin_variants

pub node_tbs_origin_meets : MeetsLaws node_tbs_origin_format
node_tbs_origin_meets = tagged_meets 1 (omega arith) node_tbs_origin_variants_meet
