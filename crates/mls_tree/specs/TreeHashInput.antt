-- TreeHashInput: what it stands for, its format and its law.
use Rattle.std.proofs.Common.{arith}
use Rattle.std.specs.Prelude.{ℕ}
use Rattle.tls_codec.specs.OwnMessages.{Tree, Number, Empty, Join, Format, nothing_format, fields_format, Variants, no_variant, variant, tagged_format, MeetsLaws, MeetsVariantLaws, nothing_meets, fields_meets, no_variant_meets, variant_meets, tagged_meets}
use Rattle.mls_tree.specs.LeafNodeHashInput.{leaf_node_hash_input_plain, leaf_node_hash_input_format, leaf_node_hash_input_meets}
use Rattle.mls_tree.specs.ParentNodeHashInput.{parent_node_hash_input_plain, parent_node_hash_input_format, parent_node_hash_input_meets}
use Rattle.mls_tree.specs.declared.tree_hash_input.TreeHashInput.{TreeHashInput}
use Rattle.mls_tree.specs.declared.tree_hash_input.TreeHashInput.TheVariants.{Leaf, Parent}

-- the tag of each case
abbrev pub tree_hash_input_tag : TreeHashInput → ℕ
tree_hash_input_tag (Leaf a0) = 1
tree_hash_input_tag (Parent a0) = 2

abbrev pub tree_hash_input_plain : TreeHashInput → Tree
tree_hash_input_plain (Leaf a0) = Join (Number 1) (Join (leaf_node_hash_input_plain a0) Empty)
tree_hash_input_plain (Parent a0) = Join (Number 2) (Join (parent_node_hash_input_plain a0) Empty)

abbrev pub tree_hash_input_variants : Variants
tree_hash_input_variants =
    variant 1 (fields_format leaf_node_hash_input_format nothing_format)
    (variant 2 (fields_format parent_node_hash_input_format nothing_format)
    no_variant)

pub tree_hash_input_variants_meet : MeetsVariantLaws tree_hash_input_variants
tree_hash_input_variants_meet =
    variant_meets 1 (fields_meets leaf_node_hash_input_meets nothing_meets)
    (variant_meets 2 (fields_meets parent_node_hash_input_meets nothing_meets)
    no_variant_meets)

abbrev pub tree_hash_input_format : Format
tree_hash_input_format = tagged_format 1 tree_hash_input_variants

pub tree_hash_input_meets : MeetsLaws tree_hash_input_format
tree_hash_input_meets = tagged_meets 1 (omega arith) tree_hash_input_variants_meet
