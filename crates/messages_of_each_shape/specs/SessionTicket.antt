-- SessionTicket: what it stands for, its format and its law.
use Rattle.tls_codec.specs.OwnMessages.{Tree, Number, number_trees, Format, number_format, bytes_format, pair_tree, triple_tree, pair_format, triple_format, MeetsLaws, u16_meets, bytes_meets, pair_meets, triple_meets}
use Rattle.tls_codec.specs.Contents.{bytes_of}
use Rattle.messages_of_each_shape.specs.EmptyType.{empty_type_plain, empty_type_format, empty_type_meets}
use Rattle.messages_of_each_shape.specs.VersionXfefd.{version_xfefd_plain, version_xfefd_format, version_xfefd_meets}
use Rattle.messages_of_each_shape.specs.MagicX0102.{magic_x0102_plain, magic_x0102_format, magic_x0102_meets}
use Rattle.messages_of_each_shape.specs.declared.session_ticket.SessionTicket.{SessionTicket}

abbrev pub session_ticket_plain : SessionTicket → Tree
session_ticket_plain v =
    pair_tree
    (triple_tree (number_trees (bytes_of v.a_1)) (empty_type_plain v.kind) (version_xfefd_plain v.version))
    (pair_tree (magic_x0102_plain v.magic) (Number v.wide))

abbrev pub session_ticket_format : Format
session_ticket_format =
    pair_format
    (triple_format bytes_format empty_type_format version_xfefd_format)
    (pair_format magic_x0102_format (number_format 2))

pub session_ticket_meets : MeetsLaws session_ticket_format
session_ticket_meets =
    pair_meets
    (triple_meets bytes_meets empty_type_meets version_xfefd_meets)
    (pair_meets magic_x0102_meets u16_meets)
