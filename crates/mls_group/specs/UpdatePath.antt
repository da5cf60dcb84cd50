-- UpdatePath: what it stands for, its format and its law.
use Rattle.tls_codec.specs.OwnMessages.{Tree, trees, Format, list_format, pair_tree, pair_format, MeetsLaws, list_meets, pair_meets}
use Rattle.mls_tree.specs.LeafNode.{leaf_node_plain, leaf_node_format, leaf_node_meets}
use Rattle.mls_group.specs.UpdatePathNode.{update_path_node_plain, update_path_node_format, update_path_node_meets}
use Rattle.mls_group.specs.declared.update_path.UpdatePath.{UpdatePath}

abbrev pub update_path_plain : UpdatePath → Tree
update_path_plain v = pair_tree (leaf_node_plain v.leaf_node) (trees update_path_node_plain v.nodes.items)

abbrev pub update_path_format : Format
update_path_format = pair_format leaf_node_format (list_format update_path_node_format)

pub update_path_meets : MeetsLaws update_path_format
update_path_meets = pair_meets leaf_node_meets (list_meets update_path_node_meets)
