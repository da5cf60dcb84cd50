-- LeafNode: what it stands for, its format and its law.
use Rattle.tls_codec.specs.OwnMessages.{Tree, trees, number_trees, Format, list_format, bytes_format, pair_tree, triple_tree, pair_format, triple_format, MeetsLaws, list_meets, bytes_meets, pair_meets, triple_meets}
use Rattle.tls_codec.specs.Contents.{bytes_of}
use Rattle.mls_tree.specs.Credential.{credential_plain, credential_format, credential_meets}
use Rattle.mls_tree.specs.Capabilities.{capabilities_plain, capabilities_format, capabilities_meets}
use Rattle.mls_tree.specs.LeafNodeOrigin.{leaf_node_origin_plain, leaf_node_origin_format, leaf_node_origin_meets}
use Rattle.mls_tree.specs.Extension.{extension_plain, extension_format, extension_meets}
use Rattle.mls_tree.specs.declared.leaf_node.LeafNode.{LeafNode}

abbrev pub leaf_node_plain : LeafNode → Tree
leaf_node_plain v =
    triple_tree
    (triple_tree (number_trees (bytes_of v.encryption_key)) (number_trees (bytes_of v.signature_key)) (credential_plain v.credential))
    (pair_tree (capabilities_plain v.capabilities) (leaf_node_origin_plain v.leaf_node_source))
    (pair_tree (trees extension_plain v.extensions.items) (number_trees (bytes_of v.signature)))

abbrev pub leaf_node_format : Format
leaf_node_format =
    triple_format
    (triple_format bytes_format bytes_format credential_format)
    (pair_format capabilities_format leaf_node_origin_format)
    (pair_format (list_format extension_format) bytes_format)

pub leaf_node_meets : MeetsLaws leaf_node_format
leaf_node_meets =
    triple_meets
    (triple_meets bytes_meets bytes_meets credential_meets)
    (pair_meets capabilities_meets leaf_node_origin_meets)
    (pair_meets (list_meets extension_meets) bytes_meets)
