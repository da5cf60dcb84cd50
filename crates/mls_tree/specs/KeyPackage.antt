-- KeyPackage: what it stands for, its format and its law.
use Rattle.tls_codec.specs.OwnMessages.{Tree, trees, number_trees, Format, list_format, bytes_format, pair_tree, triple_tree, pair_format, triple_format, MeetsLaws, list_meets, bytes_meets, pair_meets, triple_meets}
use Rattle.tls_codec.specs.Contents.{bytes_of}
use Rattle.mls_tree.specs.ProtocolVersion.{protocol_version_plain, protocol_version_format, protocol_version_meets}
use Rattle.mls_tree.specs.CipherSuite.{cipher_suite_plain, cipher_suite_format, cipher_suite_meets}
use Rattle.mls_tree.specs.LeafNode.{leaf_node_plain, leaf_node_format, leaf_node_meets}
use Rattle.mls_tree.specs.Extension.{extension_plain, extension_format, extension_meets}
use Rattle.mls_tree.specs.declared.key_package.KeyPackage.{KeyPackage}

abbrev pub key_package_plain : KeyPackage → Tree
key_package_plain v =
    pair_tree
    (triple_tree (protocol_version_plain v.version) (cipher_suite_plain v.cipher_suite) (number_trees (bytes_of v.init_key)))
    (triple_tree (leaf_node_plain v.leaf_node) (trees extension_plain v.extensions.items) (number_trees (bytes_of v.signature)))

abbrev pub key_package_format : Format
key_package_format =
    pair_format
    (triple_format protocol_version_format cipher_suite_format bytes_format)
    (triple_format leaf_node_format (list_format extension_format) bytes_format)

pub key_package_meets : MeetsLaws key_package_format
key_package_meets =
    pair_meets
    (triple_meets protocol_version_meets cipher_suite_meets bytes_meets)
    (triple_meets leaf_node_meets (list_meets extension_meets) bytes_meets)
