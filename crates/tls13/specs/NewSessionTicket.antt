-- NewSessionTicket: what it stands for, its format and its law.
use Rattle.std.proofs.Common.{arith}
use Rattle.tls_codec.specs.OwnMessages.{Tree, Number, trees, number_trees, Format, number_format, bounded_list_format, fixed_bytes_format, bounded_bytes_format, pair_tree, triple_tree, pair_format, triple_format, MeetsLaws, u32_meets, bounded_list_meets, fixed_bytes_meets, bounded_bytes_meets, pair_meets, triple_meets}
use Rattle.tls_codec.specs.Contents.{fixed_bytes_of, elements_of}
use Rattle.tls13.specs.Extension.{extension_plain, extension_format, extension_meets}
use Rattle.tls13.specs.declared.new_session_ticket.NewSessionTicket.{NewSessionTicket}

abbrev pub new_session_ticket_plain : NewSessionTicket → Tree
new_session_ticket_plain v =
    pair_tree
    (triple_tree (Number v.ticket_lifetime) (Number v.ticket_age_add) (number_trees (fixed_bytes_of v.ticket_nonce)))
    (pair_tree (number_trees (fixed_bytes_of v.ticket)) (trees extension_plain (elements_of v.extensions)))

abbrev pub new_session_ticket_format : Format
new_session_ticket_format =
    pair_format
    (triple_format (number_format 4) (number_format 4) (fixed_bytes_format 1))
    (pair_format (bounded_bytes_format 2 1 65535) (bounded_list_format 2 0 65534 extension_format))

pub new_session_ticket_meets : MeetsLaws new_session_ticket_format
new_session_ticket_meets =
    pair_meets
    (triple_meets u32_meets u32_meets (fixed_bytes_meets 1))
    (pair_meets (bounded_bytes_meets 2 1 65535 (omega arith)) (bounded_list_meets 2 0 65534 (omega arith) extension_meets))
