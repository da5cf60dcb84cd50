-- PskIdentity: what it stands for, its format and its law.
use Rattle.std.proofs.Common.{arith}
use Rattle.tls_codec.specs.OwnMessages.{Tree, Number, number_trees, Format, number_format, bounded_bytes_format, pair_tree, pair_format, MeetsLaws, u32_meets, bounded_bytes_meets, pair_meets}
use Rattle.tls_codec.specs.Contents.{fixed_bytes_of}
use Rattle.tls13.specs.declared.psk_identity.PskIdentity.{PskIdentity}

abbrev pub psk_identity_plain : PskIdentity → Tree
psk_identity_plain v = pair_tree (number_trees (fixed_bytes_of v.identity)) (Number v.obfuscated_ticket_age)

abbrev pub psk_identity_format : Format
psk_identity_format = pair_format (bounded_bytes_format 2 1 65535) (number_format 4)

pub psk_identity_meets : MeetsLaws psk_identity_format
psk_identity_meets = pair_meets (bounded_bytes_meets 2 1 65535 (omega arith)) u32_meets
