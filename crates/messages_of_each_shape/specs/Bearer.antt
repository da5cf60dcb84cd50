-- Bearer: what it stands for, its format and its law.
use Rattle.tls_codec.specs.OwnMessages.{Tree, Number, Join, number_trees, Format, number_format, bytes_format, pair_tree, pair_format, then_format, MeetsLaws, u8_meets, bytes_meets, pair_meets, then_meets}
use Rattle.tls_codec.specs.Contents.{bytes_of}
use Rattle.messages_of_each_shape.specs.Named.{named_plain, named_format, named_meets}
use Rattle.messages_of_each_shape.specs.NameTypeData.{name_type_data_plain, name_type_data_format_for, name_type_data_meets_for}
use Rattle.messages_of_each_shape.specs.Named.{named_name_type}
use Rattle.messages_of_each_shape.specs.declared.bearer.Bearer.{Bearer}

abbrev pub bearer_plain : Bearer → Tree
bearer_plain v =
    pair_tree
    (Number v.level)
    (Join (named_plain v.named) (pair_tree (name_type_data_plain v.body) (number_trees (bytes_of v.last))))

abbrev pub bearer_format : Format
bearer_format =
    pair_format
    (number_format 1)
    (then_format named_format (λ c. pair_format (name_type_data_format_for (named_name_type c)) bytes_format))

pub bearer_meets : MeetsLaws bearer_format
bearer_meets =
    pair_meets
    u8_meets
    (then_meets named_meets (λ c. pair_meets (name_type_data_meets_for (named_name_type c)) bytes_meets))
