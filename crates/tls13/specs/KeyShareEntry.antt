-- KeyShareEntry: what it stands for, its format and its law.
use Rattle.std.proofs.Common.{arith}
use Rattle.tls_codec.specs.OwnMessages.{Tree, number_trees, Format, bounded_bytes_format, pair_tree, pair_format, MeetsLaws, bounded_bytes_meets, pair_meets}
use Rattle.tls_codec.specs.Contents.{fixed_bytes_of}
use Rattle.tls13.specs.NamedGroup.{named_group_plain, named_group_format, named_group_meets}
use Rattle.tls13.specs.declared.key_share_entry.KeyShareEntry.{KeyShareEntry}

abbrev pub key_share_entry_plain : KeyShareEntry → Tree
key_share_entry_plain v = pair_tree (named_group_plain v.group) (number_trees (fixed_bytes_of v.key_exchange))

abbrev pub key_share_entry_format : Format
key_share_entry_format = pair_format named_group_format (bounded_bytes_format 2 1 65535)

pub key_share_entry_meets : MeetsLaws key_share_entry_format
key_share_entry_meets = pair_meets named_group_meets (bounded_bytes_meets 2 1 65535 (omega arith))
