-- SizedType: what it stands for, its format and its law.
use Rattle.tls_codec.specs.OwnMessages.{Tree, Number, Format, number_format, triple_tree, triple_format, MeetsLaws, u8_meets, triple_meets}
use Rattle.messages_of_each_shape.specs.VersionData.{version_data_plain, version_data_format, version_data_meets}
use Rattle.messages_of_each_shape.specs.declared.sized_type.SizedType.{SizedType}

abbrev pub sized_type_plain : SizedType → Tree
sized_type_plain v = triple_tree (Number v.before) (version_data_plain v.contents) (Number v.after)

abbrev pub sized_type_format : Format
sized_type_format = triple_format (number_format 1) version_data_format (number_format 1)

pub sized_type_meets : MeetsLaws sized_type_format
sized_type_meets = triple_meets u8_meets version_data_meets u8_meets
