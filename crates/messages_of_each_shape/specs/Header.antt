-- Header: what it stands for, its format and its law.
use Rattle.tls_codec.specs.OwnMessages.{Tree, Number, number_trees, Format, number_format, bytes_format, pair_tree, pair_format, MeetsLaws, u16_meets, bytes_meets, pair_meets}
use Rattle.tls_codec.specs.Contents.{bytes_of}
use Rattle.tls_codec_cases.specs.Held.{first_of}
use Rattle.messages_of_each_shape.specs.declared.header.Header.{Header}

abbrev pub header_plain : Header → Tree
header_plain v = pair_tree (Number v.version) (number_trees (bytes_of v.rest_))

abbrev pub header_format : Format
header_format = pair_format (number_format 2) bytes_format

pub header_meets : MeetsLaws header_format
header_meets = pair_meets u16_meets bytes_meets

-- the u16 of a value, from what the value stands for
abbrev pub header_u16 : Tree → Tree
header_u16 c = first_of c
