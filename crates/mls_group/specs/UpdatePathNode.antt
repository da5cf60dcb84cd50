-- UpdatePathNode: what it stands for, its format and its law.
use Rattle.tls_codec.specs.OwnMessages.{Tree, trees, number_trees, Format, list_format, bytes_format, pair_tree, pair_format, MeetsLaws, list_meets, bytes_meets, pair_meets}
use Rattle.tls_codec.specs.Contents.{bytes_of}
use Rattle.mls_group.specs.HPKECiphertext.{hpke_ciphertext_plain, hpke_ciphertext_format, hpke_ciphertext_meets}
use Rattle.mls_group.specs.declared.update_path_node.UpdatePathNode.{UpdatePathNode}

abbrev pub update_path_node_plain : UpdatePathNode → Tree
update_path_node_plain v = pair_tree (number_trees (bytes_of v.encryption_key)) (trees hpke_ciphertext_plain v.encrypted_path_secret.items)

abbrev pub update_path_node_format : Format
update_path_node_format = pair_format bytes_format (list_format hpke_ciphertext_format)

pub update_path_node_meets : MeetsLaws update_path_node_format
update_path_node_meets = pair_meets bytes_meets (list_meets hpke_ciphertext_meets)
