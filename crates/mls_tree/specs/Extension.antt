-- Extension: what it stands for, its format and its law.
use Rattle.tls_codec.specs.OwnMessages.{Tree, number_trees, Format, bytes_format, pair_tree, pair_format, MeetsLaws, bytes_meets, pair_meets}
use Rattle.tls_codec.specs.Contents.{bytes_of}
use Rattle.mls_tree.specs.ExtensionType.{extension_type_plain, extension_type_format, extension_type_meets}
use Rattle.mls_tree.specs.declared.extension.Extension.{Extension}

abbrev pub extension_plain : Extension → Tree
extension_plain v = pair_tree (extension_type_plain v.extension_type) (number_trees (bytes_of v.extension_data))

abbrev pub extension_format : Format
extension_format = pair_format extension_type_format bytes_format

pub extension_meets : MeetsLaws extension_format
extension_meets = pair_meets extension_type_meets bytes_meets
