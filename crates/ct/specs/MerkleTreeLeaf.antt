-- MerkleTreeLeaf: what it stands for, its format and its law.
use Rattle.tls_codec.specs.OwnMessages.{Tree, Format, triple_tree, triple_format, MeetsLaws, triple_meets}
use Rattle.ct.specs.Version.{version_plain, version_format, version_meets}
use Rattle.ct.specs.MerkleLeafType.{merkle_leaf_type_plain, merkle_leaf_type_format, merkle_leaf_type_meets}
use Rattle.ct.specs.TimestampedEntry.{timestamped_entry_plain, timestamped_entry_format, timestamped_entry_meets}
use Rattle.ct.specs.declared.merkle_tree_leaf.MerkleTreeLeaf.{MerkleTreeLeaf}

abbrev pub merkle_tree_leaf_plain : MerkleTreeLeaf → Tree
merkle_tree_leaf_plain v = triple_tree (version_plain v.version) (merkle_leaf_type_plain v.leaf_type)
    (timestamped_entry_plain v.timestamped_entry)

abbrev pub merkle_tree_leaf_format : Format
merkle_tree_leaf_format = triple_format version_format merkle_leaf_type_format timestamped_entry_format

pub merkle_tree_leaf_meets : MeetsLaws merkle_tree_leaf_format
merkle_tree_leaf_meets = triple_meets version_meets merkle_leaf_type_meets timestamped_entry_meets
