-- LeafNodeHashInput: what it stands for, its format and its law.
use Rattle.tls_codec.specs.OwnMessages.{Tree, Number, option_plain, Format, number_format, option_format, pair_tree, pair_format, MeetsLaws, u32_meets, option_meets, pair_meets}
use Rattle.mls_tree.specs.LeafNode.{leaf_node_plain, leaf_node_format, leaf_node_meets}
use Rattle.mls_tree.specs.declared.leaf_node_hash_input.LeafNodeHashInput.{LeafNodeHashInput}

abbrev pub leaf_node_hash_input_plain : LeafNodeHashInput → Tree
leaf_node_hash_input_plain v = pair_tree (Number v.leaf_index) (option_plain leaf_node_plain v.leaf_node)

abbrev pub leaf_node_hash_input_format : Format
leaf_node_hash_input_format = pair_format (number_format 4) (option_format leaf_node_format)

pub leaf_node_hash_input_meets : MeetsLaws leaf_node_hash_input_format
leaf_node_hash_input_meets = pair_meets u32_meets (option_meets leaf_node_meets)
