-- ServerName: what it stands for, its format and its law.
use Rattle.std.proofs.Common.{arith}
use Rattle.tls_codec.specs.OwnMessages.{Tree, number_trees, Format, bounded_bytes_format, pair_tree, pair_format, MeetsLaws, bounded_bytes_meets, pair_meets}
use Rattle.tls_codec.specs.Contents.{fixed_bytes_of}
use Rattle.messages_of_each_shape.specs.NameTypeHostName.{name_type_host_name_plain, name_type_host_name_format, name_type_host_name_meets}
use Rattle.messages_of_each_shape.specs.declared.server_name.ServerName.{ServerName}

abbrev pub server_name_plain : ServerName → Tree
server_name_plain v = pair_tree (name_type_host_name_plain v.name_type) (number_trees (fixed_bytes_of v.name))

abbrev pub server_name_format : Format
server_name_format = pair_format name_type_host_name_format (bounded_bytes_format 2 1 65535)

pub server_name_meets : MeetsLaws server_name_format
server_name_meets = pair_meets name_type_host_name_meets (bounded_bytes_meets 2 1 65535 (omega arith))
