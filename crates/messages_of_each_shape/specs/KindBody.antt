-- KindBody: what it stands for, its format and its law.
use Rattle.tls_codec.specs.OwnMessages.{Tree, Number, Format, number_format, pair_tree, pair_format, EachMeetsLaws, u8_meets, pair_meets}
use Rattle.messages_of_each_shape.specs.BodyKindData.{body_kind_data_plain, body_kind_data_format_for, body_kind_data_meets_for}
use Rattle.messages_of_each_shape.specs.BodyKind.{body_kind_selected}
use Rattle.messages_of_each_shape.specs.declared.kind_body.KindBody.{KindBody}

abbrev pub kind_body_plain : KindBody → Tree
kind_body_plain v = pair_tree (Number v.first) (body_kind_data_plain v.body)

abbrev pub kind_body_format_for : Tree → Format
kind_body_format_for c = pair_format (number_format 1) (body_kind_data_format_for c)

pub kind_body_meets_for : EachMeetsLaws kind_body_format_for
kind_body_meets_for c = pair_meets u8_meets (body_kind_data_meets_for c)
