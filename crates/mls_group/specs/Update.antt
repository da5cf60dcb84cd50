-- Update: what it stands for, its format and its law.
use Rattle.tls_codec.specs.OwnMessages.{Tree, Format, MeetsLaws}
use Rattle.mls_tree.specs.LeafNode.{leaf_node_plain, leaf_node_format, leaf_node_meets}
use Rattle.mls_group.specs.declared.update.Update.{Update}

abbrev pub update_plain : Update → Tree
update_plain v = leaf_node_plain v.leaf_node

abbrev pub update_format : Format
update_format = leaf_node_format

pub update_meets : MeetsLaws update_format
update_meets = leaf_node_meets
