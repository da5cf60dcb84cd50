-- SenderDataAAD: what it stands for, its format and its law.
use Rattle.tls_codec.specs.OwnMessages.{Tree, Number, number_trees, Format, number_format, bytes_format, triple_tree, triple_format, MeetsLaws, u64_meets, bytes_meets, triple_meets}
use Rattle.tls_codec.specs.Contents.{bytes_of}
use Rattle.mls.specs.ContentType.{content_type_plain, content_type_format, content_type_meets}
use Rattle.mls.specs.declared.sender_data_aad.SenderDataAAD.{SenderDataAAD}

abbrev pub sender_data_aad_plain : SenderDataAAD → Tree
sender_data_aad_plain v = triple_tree (number_trees (bytes_of v.group_id.now)) (Number v.epoch.now) (content_type_plain v.content_type.now)

abbrev pub sender_data_aad_format : Format
sender_data_aad_format = triple_format bytes_format (number_format 8) content_type_format

pub sender_data_aad_meets : MeetsLaws sender_data_aad_format
sender_data_aad_meets = triple_meets bytes_meets u64_meets content_type_meets
