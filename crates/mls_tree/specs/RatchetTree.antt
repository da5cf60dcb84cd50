-- RatchetTree: what it stands for, its format and its law.
use Rattle.tls_codec.specs.OwnMessages.{Tree, trees, option_plain, Format, option_format, list_format, MeetsLaws, option_meets, list_meets}
use Rattle.mls_tree.specs.Node.{node_plain, node_format, node_meets}
use Rattle.mls_tree.specs.declared.ratchet_tree.RatchetTree.{RatchetTree}

abbrev pub ratchet_tree_plain : RatchetTree → Tree
ratchet_tree_plain v = trees (option_plain node_plain) v.ratchet_tree.items

abbrev pub ratchet_tree_format : Format
ratchet_tree_format = list_format (option_format node_format)

pub ratchet_tree_meets : MeetsLaws ratchet_tree_format
ratchet_tree_meets = list_meets (option_meets node_meets)
