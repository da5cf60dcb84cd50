-- ParentNodeHashInput: what it stands for, its format and its law.
use Rattle.tls_codec.specs.OwnMessages.{Tree, number_trees, option_plain, Format, option_format, bytes_format, triple_tree, triple_format, MeetsLaws, option_meets, bytes_meets, triple_meets}
use Rattle.tls_codec.specs.Contents.{bytes_of}
use Rattle.mls_tree.specs.ParentNode.{parent_node_plain, parent_node_format, parent_node_meets}
use Rattle.mls_tree.specs.declared.parent_node_hash_input.ParentNodeHashInput.{ParentNodeHashInput}

abbrev pub parent_node_hash_input_plain : ParentNodeHashInput → Tree
parent_node_hash_input_plain v = triple_tree (option_plain parent_node_plain v.parent_node) (number_trees (bytes_of v.left_hash))
    (number_trees (bytes_of v.right_hash))

abbrev pub parent_node_hash_input_format : Format
parent_node_hash_input_format = triple_format (option_format parent_node_format) bytes_format bytes_format

pub parent_node_hash_input_meets : MeetsLaws parent_node_hash_input_format
parent_node_hash_input_meets = triple_meets (option_meets parent_node_meets) bytes_meets bytes_meets
