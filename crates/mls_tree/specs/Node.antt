-- Node: what it stands for, its format and its law.
use Rattle.std.proofs.Common.{arith}
use Rattle.std.specs.Prelude.{ℕ}
use Rattle.tls_codec.specs.OwnMessages.{Tree, Number, Empty, Join, Format, nothing_format, fields_format, Variants, no_variant, variant, tagged_format, MeetsLaws, MeetsVariantLaws, nothing_meets, fields_meets, no_variant_meets, variant_meets, tagged_meets}
use Rattle.mls_tree.specs.LeafNode.{leaf_node_plain, leaf_node_format, leaf_node_meets}
use Rattle.mls_tree.specs.ParentNode.{parent_node_plain, parent_node_format, parent_node_meets}
use Rattle.mls_tree.specs.declared.node.Node.{Node}
use Rattle.mls_tree.specs.declared.node.Node.TheVariants.{Leaf, Parent}

-- the tag of each case
abbrev pub node_tag : Node → ℕ
node_tag (Leaf a0) = 1
node_tag (Parent a0) = 2

abbrev pub node_plain : Node → Tree
node_plain (Leaf a0) = Join (Number 1) (Join (leaf_node_plain a0) Empty)
node_plain (Parent a0) = Join (Number 2) (Join (parent_node_plain a0) Empty)

abbrev pub node_variants : Variants
node_variants =
    variant 1 (fields_format leaf_node_format nothing_format)
    (variant 2 (fields_format parent_node_format nothing_format)
    no_variant)

pub node_variants_meet : MeetsVariantLaws node_variants
node_variants_meet =
    variant_meets 1 (fields_meets leaf_node_meets nothing_meets)
    (variant_meets 2 (fields_meets parent_node_meets nothing_meets)
    no_variant_meets)

abbrev pub node_format : Format
node_format = tagged_format 1 node_variants

pub node_meets : MeetsLaws node_format
node_meets = tagged_meets 1 (omega arith) node_variants_meet
