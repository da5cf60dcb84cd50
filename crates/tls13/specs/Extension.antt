-- Extension: what it stands for, its format and its law.
use Rattle.tls_codec.specs.OwnMessages.{Tree, number_trees, Format, fixed_bytes_format, pair_tree, pair_format, MeetsLaws, fixed_bytes_meets, pair_meets}
use Rattle.tls_codec.specs.Contents.{fixed_bytes_of}
use Rattle.tls13.specs.ExtensionType.{extension_type_plain, extension_type_format, extension_type_meets}
use Rattle.tls13.specs.declared.extension.Extension.{Extension}

abbrev pub extension_plain : Extension → Tree
extension_plain v = pair_tree (extension_type_plain v.extension_type) (number_trees (fixed_bytes_of v.extension_data))

abbrev pub extension_format : Format
extension_format = pair_format extension_type_format (fixed_bytes_format 2)

pub extension_meets : MeetsLaws extension_format
extension_meets = pair_meets extension_type_meets (fixed_bytes_meets 2)
