-- Bounded: what it stands for, its format and its law.
use Rattle.std.proofs.Common.{arith}
use Rattle.tls_codec.specs.OwnMessages.{Tree, Number, trees, number_trees, Format, number_format, bounded_list_format, bounded_bytes_format, pair_tree, pair_format, MeetsLaws, u16_meets, bounded_list_meets, bounded_bytes_meets, pair_meets}
use Rattle.tls_codec.specs.Contents.{fixed_bytes_of, elements_of}
use Rattle.messages_of_each_shape.specs.declared.bounded.Bounded.{Bounded}

abbrev pub bounded_plain : Bounded → Tree
bounded_plain v = pair_tree (number_trees (fixed_bytes_of v.session)) (trees Number (elements_of v.suites))

abbrev pub bounded_format : Format
bounded_format = pair_format (bounded_bytes_format 1 0 32) (bounded_list_format 2 2 65534 (number_format 2))

pub bounded_meets : MeetsLaws bounded_format
bounded_meets = pair_meets (bounded_bytes_meets 1 0 32 (omega arith)) (bounded_list_meets 2 2 65534 (omega arith) u16_meets)
