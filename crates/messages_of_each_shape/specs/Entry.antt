-- Entry: what it stands for, its format and its law.
use Rattle.tls_codec.specs.OwnMessages.{Tree, Number, number_trees, Format, number_format, bytes_format, pair_tree, pair_format, EachMeetsLaws, u8_meets, u16_meets, bytes_meets, pair_meets}
use Rattle.tls_codec.specs.Contents.{bytes_of}
use Rattle.messages_of_each_shape.specs.CertificateTypeData.{certificate_type_data_plain, certificate_type_data_format_for, certificate_type_data_meets_for}
use Rattle.messages_of_each_shape.specs.CertificateType.{certificate_type_selected}
use Rattle.messages_of_each_shape.specs.declared.entry.Entry.{Entry}

abbrev pub entry_plain : Entry → Tree
entry_plain v =
    pair_tree
    (pair_tree (Number v.first) (certificate_type_data_plain v.body))
    (pair_tree (Number v.second) (number_trees (bytes_of v.last)))

abbrev pub entry_format_for : Tree → Format
entry_format_for c =
    pair_format
    (pair_format (number_format 1) (certificate_type_data_format_for c))
    (pair_format (number_format 2) bytes_format)

pub entry_meets_for : EachMeetsLaws entry_format_for
entry_meets_for c =
    pair_meets
    (pair_meets u8_meets (certificate_type_data_meets_for c))
    (pair_meets u16_meets bytes_meets)
