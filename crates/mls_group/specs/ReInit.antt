-- ReInit: what it stands for, its format and its law.
use Rattle.tls_codec.specs.OwnMessages.{Tree, trees, number_trees, Format, list_format, bytes_format, pair_tree, pair_format, MeetsLaws, list_meets, bytes_meets, pair_meets}
use Rattle.tls_codec.specs.Contents.{bytes_of}
use Rattle.mls_tree.specs.ProtocolVersion.{protocol_version_plain, protocol_version_format, protocol_version_meets}
use Rattle.mls_tree.specs.CipherSuite.{cipher_suite_plain, cipher_suite_format, cipher_suite_meets}
use Rattle.mls_tree.specs.Extension.{extension_plain, extension_format, extension_meets}
use Rattle.mls_group.specs.declared.re_init.ReInit.{ReInit}

abbrev pub re_init_plain : ReInit → Tree
re_init_plain v =
    pair_tree
    (pair_tree (number_trees (bytes_of v.group_id)) (protocol_version_plain v.version))
    (pair_tree (cipher_suite_plain v.cipher_suite) (trees extension_plain v.extensions.items))

abbrev pub re_init_format : Format
re_init_format =
    pair_format
    (pair_format bytes_format protocol_version_format)
    (pair_format cipher_suite_format (list_format extension_format))

pub re_init_meets : MeetsLaws re_init_format
re_init_meets =
    pair_meets
    (pair_meets bytes_meets protocol_version_meets)
    (pair_meets cipher_suite_meets (list_meets extension_meets))
