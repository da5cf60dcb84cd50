-- ClientHello: what it stands for, its format and its law.
use Rattle.std.proofs.Common.{arith}
use Rattle.tls_codec.specs.OwnMessages.{Tree, trees, number_trees, Format, array_format, bounded_list_format, bounded_bytes_format, pair_tree, triple_tree, pair_format, triple_format, MeetsLaws, array_meets, bounded_list_meets, bounded_bytes_meets, pair_meets, triple_meets}
use Rattle.tls_codec.specs.Contents.{fixed_bytes_of, elements_of}
use Rattle.tls13.specs.ProtocolVersionX0303.{protocol_version_x0303_plain, protocol_version_x0303_format, protocol_version_x0303_meets}
use Rattle.tls13.specs.Extension.{extension_plain, extension_format, extension_meets}
use Rattle.tls13.specs.declared.client_hello.ClientHello.{ClientHello}

abbrev pub client_hello_plain : ClientHello → Tree
client_hello_plain v =
    pair_tree
    (triple_tree (protocol_version_x0303_plain v.legacy_version) (number_trees v.random)
    (number_trees (fixed_bytes_of v.legacy_session_id)))
    (triple_tree (trees number_trees (elements_of v.cipher_suites)) (number_trees (fixed_bytes_of v.legacy_compression_methods))
    (trees extension_plain (elements_of v.extensions)))

abbrev pub client_hello_format : Format
client_hello_format =
    pair_format
    (triple_format protocol_version_x0303_format (array_format 32) (bounded_bytes_format 1 0 32))
    (triple_format (bounded_list_format 2 2 65534 (array_format 2)) (bounded_bytes_format 1 1 255)
    (bounded_list_format 2 8 65535 extension_format))

pub client_hello_meets : MeetsLaws client_hello_format
client_hello_meets =
    pair_meets
    (triple_meets protocol_version_x0303_meets (array_meets 32 (omega arith)) (bounded_bytes_meets 1 0 32 (omega arith)))
    (triple_meets (bounded_list_meets 2 2 65534 (omega arith) (array_meets 2 (omega arith))) (bounded_bytes_meets 1 1 255 (omega arith))
    (bounded_list_meets 2 8 65535 (omega arith) extension_meets))
