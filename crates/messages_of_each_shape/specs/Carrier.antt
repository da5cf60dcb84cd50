-- Carrier: what it stands for, its format and its law.
use Rattle.tls_codec.specs.OwnMessages.{Tree, Number, Join, trees, Format, number_format, list_format, fixed_list_format, pair_tree, pair_format, then_format, MeetsLaws, u8_meets, list_meets, fixed_list_meets, pair_meets, then_meets}
use Rattle.tls_codec.specs.Contents.{elements_of}
use Rattle.messages_of_each_shape.specs.BodyKind.{body_kind_plain, body_kind_format, body_kind_meets}
use Rattle.messages_of_each_shape.specs.KindBody.{kind_body_plain, kind_body_format_for, kind_body_meets_for}
use Rattle.messages_of_each_shape.specs.declared.carrier.Carrier.{Carrier}

abbrev pub carrier_plain : Carrier → Tree
carrier_plain v =
    Join
    (body_kind_plain v.body_kind)
    (pair_tree (pair_tree (kind_body_plain v.one) (Number v.count)) (pair_tree (trees kind_body_plain (elements_of v.many))
    (trees kind_body_plain v.more.items)))

abbrev pub carrier_format : Format
carrier_format =
    then_format
    body_kind_format
    (λ c. pair_format (pair_format (kind_body_format_for c) (number_format 1))
    (pair_format (fixed_list_format 2 (kind_body_format_for c)) (list_format (kind_body_format_for c))))

pub carrier_meets : MeetsLaws carrier_format
carrier_meets =
    then_meets
    body_kind_meets
    (λ c. pair_meets (pair_meets (kind_body_meets_for c) u8_meets) (pair_meets (fixed_list_meets 2 (kind_body_meets_for c))
    (list_meets (kind_body_meets_for c))))
