-- LeafNodeTBS: what it stands for, its format and its law.
use Rattle.tls_codec.specs.OwnMessages.{Tree, number_trees, Format, bytes_format, pair_tree, pair_format, MeetsLaws, bytes_meets, pair_meets}
use Rattle.tls_codec.specs.Contents.{bytes_of}
use Rattle.mls_tree.specs.Credential.{credential_plain, credential_format, credential_meets}
use Rattle.mls_tree.specs.Capabilities.{capabilities_plain, capabilities_format, capabilities_meets}
use Rattle.mls_tree.specs.LeafNodeTBSOrigin.{leaf_node_tbs_origin_plain, leaf_node_tbs_origin_format, leaf_node_tbs_origin_meets}
use Rattle.mls_tree.specs.declared.leaf_node_tbs.LeafNodeTBS.{LeafNodeTBS}

abbrev pub leaf_node_tbs_plain : LeafNodeTBS → Tree
leaf_node_tbs_plain v =
    pair_tree
    (pair_tree (pair_tree (number_trees (bytes_of v.encryption_key.now)) (number_trees (bytes_of v.signature_key.now)))
    (pair_tree (credential_plain v.credential.now) (capabilities_plain v.capabilities.now)))
    (leaf_node_tbs_origin_plain v.leaf_node_source)

abbrev pub leaf_node_tbs_format : Format
leaf_node_tbs_format =
    pair_format
    (pair_format (pair_format bytes_format bytes_format) (pair_format credential_format capabilities_format))
    leaf_node_tbs_origin_format

pub leaf_node_tbs_meets : MeetsLaws leaf_node_tbs_format
leaf_node_tbs_meets =
    pair_meets
    (pair_meets (pair_meets bytes_meets bytes_meets) (pair_meets credential_meets capabilities_meets))
    leaf_node_tbs_origin_meets
