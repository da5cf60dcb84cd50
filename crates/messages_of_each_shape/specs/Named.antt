-- Named: what it stands for, its format and its law.
use Rattle.tls_codec.specs.OwnMessages.{Tree, Number, Format, number_format, pair_tree, pair_format, MeetsLaws, u8_meets, pair_meets}
use Rattle.tls_codec_cases.specs.Held.{second_of}
use Rattle.messages_of_each_shape.specs.NameType.{name_type_plain, name_type_format, name_type_meets}
use Rattle.messages_of_each_shape.specs.declared.named.Named.{Named}

abbrev pub named_plain : Named → Tree
named_plain v = pair_tree (Number v.before) (name_type_plain v.name_type)

abbrev pub named_format : Format
named_format = pair_format (number_format 1) name_type_format

pub named_meets : MeetsLaws named_format
named_meets = pair_meets u8_meets name_type_meets

-- the NameType of a value, from what the value stands for
abbrev pub named_name_type : Tree → Tree
named_name_type c = second_of c
