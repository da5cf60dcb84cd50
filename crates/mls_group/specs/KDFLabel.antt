-- KDFLabel: what it stands for, its format and its law.
use Rattle.tls_codec.specs.OwnMessages.{Tree, Number, number_trees, Format, number_format, bytes_format, triple_tree, triple_format, MeetsLaws, u16_meets, bytes_meets, triple_meets}
use Rattle.tls_codec.specs.Contents.{bytes_of}
use Rattle.mls_group.specs.declared.kdf_label.KDFLabel.{KDFLabel}

abbrev pub kdf_label_plain : KDFLabel → Tree
kdf_label_plain v = triple_tree (Number v.length.now) (number_trees (bytes_of v.label.now)) (number_trees (bytes_of v.context.now))

abbrev pub kdf_label_format : Format
kdf_label_format = triple_format (number_format 2) bytes_format bytes_format

pub kdf_label_meets : MeetsLaws kdf_label_format
kdf_label_meets = triple_meets u16_meets bytes_meets bytes_meets
