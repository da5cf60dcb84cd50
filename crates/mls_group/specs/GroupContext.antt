-- GroupContext: what it stands for, its format and its law.
use Rattle.tls_codec.specs.OwnMessages.{Tree, Number, trees, number_trees, Format, number_format, list_format, bytes_format, pair_tree, triple_tree, pair_format, triple_format, MeetsLaws, u64_meets, list_meets, bytes_meets, pair_meets, triple_meets}
use Rattle.tls_codec.specs.Contents.{bytes_of}
use Rattle.mls_group.specs.ProtocolVersionMls10.{protocol_version_mls10_plain, protocol_version_mls10_format, protocol_version_mls10_meets}
use Rattle.mls_tree.specs.CipherSuite.{cipher_suite_plain, cipher_suite_format, cipher_suite_meets}
use Rattle.mls_tree.specs.Extension.{extension_plain, extension_format, extension_meets}
use Rattle.mls_group.specs.declared.group_context.GroupContext.{GroupContext}

abbrev pub group_context_plain : GroupContext → Tree
group_context_plain v =
    triple_tree
    (triple_tree (protocol_version_mls10_plain v.version) (cipher_suite_plain v.cipher_suite) (number_trees (bytes_of v.group_id)))
    (pair_tree (Number v.epoch) (number_trees (bytes_of v.tree_hash)))
    (pair_tree (number_trees (bytes_of v.confirmed_transcript_hash)) (trees extension_plain v.extensions.items))

abbrev pub group_context_format : Format
group_context_format =
    triple_format
    (triple_format protocol_version_mls10_format cipher_suite_format bytes_format)
    (pair_format (number_format 8) bytes_format)
    (pair_format bytes_format (list_format extension_format))

pub group_context_meets : MeetsLaws group_context_format
group_context_meets =
    triple_meets
    (triple_meets protocol_version_mls10_meets cipher_suite_meets bytes_meets)
    (pair_meets u64_meets bytes_meets)
    (pair_meets bytes_meets (list_meets extension_meets))
