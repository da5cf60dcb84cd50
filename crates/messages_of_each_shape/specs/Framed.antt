-- Framed: what it stands for, its format and its law.
use Rattle.tls_codec.specs.OwnMessages.{Tree, Number, number_trees, Format, number_format, bytes_format, triple_tree, triple_format, MeetsLaws, u32_meets, bytes_meets, triple_meets}
use Rattle.tls_codec.specs.Contents.{bytes_of}
use Rattle.messages_of_each_shape.specs.ContentTypeData.{content_type_data_plain, content_type_data_format, content_type_data_meets}
use Rattle.messages_of_each_shape.specs.declared.framed.Framed.{Framed}

abbrev pub framed_plain : Framed → Tree
framed_plain v = triple_tree (Number v.epoch) (content_type_data_plain v.content_type) (number_trees (bytes_of v.signature))

abbrev pub framed_format : Format
framed_format = triple_format (number_format 4) content_type_data_format bytes_format

pub framed_meets : MeetsLaws framed_format
framed_meets = triple_meets u32_meets content_type_data_meets bytes_meets
