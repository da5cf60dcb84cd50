-- ParentNode: what it stands for, its format and its law.
use Rattle.tls_codec.specs.OwnMessages.{Tree, Number, trees, number_trees, Format, number_format, list_format, bytes_format, triple_tree, triple_format, MeetsLaws, u32_meets, list_meets, bytes_meets, triple_meets}
use Rattle.tls_codec.specs.Contents.{bytes_of}
use Rattle.mls_tree.specs.declared.parent_node.ParentNode.{ParentNode}

abbrev pub parent_node_plain : ParentNode → Tree
parent_node_plain v = triple_tree (number_trees (bytes_of v.encryption_key)) (number_trees (bytes_of v.parent_hash))
    (trees Number v.unmerged_leaves.items)

abbrev pub parent_node_format : Format
parent_node_format = triple_format bytes_format bytes_format (list_format (number_format 4))

pub parent_node_meets : MeetsLaws parent_node_format
parent_node_meets = triple_meets bytes_meets bytes_meets (list_meets u32_meets)
