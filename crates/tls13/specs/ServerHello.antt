-- ServerHello: what it stands for, its format and its law.
use Rattle.std.proofs.Common.{arith}
use Rattle.tls_codec.specs.OwnMessages.{Tree, trees, number_trees, Format, array_format, bounded_list_format, bounded_bytes_format, pair_tree, triple_tree, pair_format, triple_format, MeetsLaws, array_meets, bounded_list_meets, bounded_bytes_meets, pair_meets, triple_meets}
use Rattle.tls_codec.specs.Contents.{fixed_bytes_of, elements_of}
use Rattle.tls13.specs.ProtocolVersionX0303.{protocol_version_x0303_plain, protocol_version_x0303_format, protocol_version_x0303_meets}
use Rattle.tls13.specs.LegacyCompressionMethodX00.{legacy_compression_method_x00_plain, legacy_compression_method_x00_format, legacy_compression_method_x00_meets}
use Rattle.tls13.specs.Extension.{extension_plain, extension_format, extension_meets}
use Rattle.tls13.specs.declared.server_hello.ServerHello.{ServerHello}

abbrev pub server_hello_plain : ServerHello → Tree
server_hello_plain v =
    pair_tree
    (triple_tree (protocol_version_x0303_plain v.legacy_version) (number_trees v.random)
    (number_trees (fixed_bytes_of v.legacy_session_id_echo)))
    (triple_tree (number_trees v.cipher_suite) (legacy_compression_method_x00_plain v.legacy_compression_method)
    (trees extension_plain (elements_of v.extensions)))

abbrev pub server_hello_format : Format
server_hello_format =
    pair_format
    (triple_format protocol_version_x0303_format (array_format 32) (bounded_bytes_format 1 0 32))
    (triple_format (array_format 2) legacy_compression_method_x00_format (bounded_list_format 2 6 65535 extension_format))

pub server_hello_meets : MeetsLaws server_hello_format
server_hello_meets =
    pair_meets
    (triple_meets protocol_version_x0303_meets (array_meets 32 (omega arith)) (bounded_bytes_meets 1 0 32 (omega arith)))
    (triple_meets (array_meets 2 (omega arith)) legacy_compression_method_x00_meets
    (bounded_list_meets 2 6 65535 (omega arith) extension_meets))
