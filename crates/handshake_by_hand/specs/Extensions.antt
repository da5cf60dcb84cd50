-- What an extension stands for, its type and its data, and its format.
use Rattle.tls_codec.specs.OwnMessages.{Tree, Number, number_trees, pair_tree, Format, number_format, pair_format, fixed_bytes_format, MeetsLaws, u16_meets, pair_meets, fixed_bytes_meets}
use Rattle.tls_codec.specs.Contents.{fixed_bytes_of}
use Rattle.handshake_by_hand.specs.declared.extension.Extension.{Extension}

abbrev pub extension_plain : Extension → Tree
extension_plain v = pair_tree (Number v.extension_type) (number_trees (fixed_bytes_of v.extension_data))

abbrev pub extension_format : Format
extension_format = pair_format (number_format 2) (fixed_bytes_format 2)

pub extension_meets : MeetsLaws extension_format
extension_meets = pair_meets u16_meets (fixed_bytes_meets 2)
