-- Wide: what it stands for, its format and its law.
use Rattle.std.proofs.Common.{arith}
use Rattle.std.specs.Prelude.{string_bytes}
use Rattle.tls_codec.specs.OwnMessages.{Tree, Number, trees, number_trees, option_plain, Format, number_format, array_format, option_format, fixed_list_format, bytes_format, fixed_bytes_format, text_format, pair_tree, triple_tree, pair_format, triple_format, MeetsLaws, u8_meets, u16_meets, u24_meets, u32_meets, u64_meets, array_meets, option_meets, fixed_list_meets, bytes_meets, fixed_bytes_meets, text_meets, pair_meets, triple_meets}
use Rattle.tls_codec.specs.Contents.{bytes_of, fixed_bytes_of, elements_of, uint24_of}
use Rattle.messages_of_each_shape.specs.declared.wide.Wide.{Wide}

abbrev pub wide_plain : Wide → Tree
wide_plain v =
    triple_tree
    (pair_tree (pair_tree (Number v.a) (Number (uint24_of v.b))) (pair_tree (Number v.c) (Number v.d)))
    (pair_tree (pair_tree (number_trees v.e) (number_trees (fixed_bytes_of v.f)))
    (pair_tree (number_trees (fixed_bytes_of v.g)) (number_trees (fixed_bytes_of v.h))))
    (pair_tree (pair_tree (number_trees (fixed_bytes_of v.i)) (trees (λ v. number_trees (bytes_of v)) (elements_of v.j)))
    (pair_tree (number_trees (string_bytes v.k)) (option_plain Number v.l)))

abbrev pub wide_format : Format
wide_format =
    triple_format
    (pair_format (pair_format (number_format 1) (number_format 3)) (pair_format (number_format 4) (number_format 8)))
    (pair_format (pair_format (array_format 16) (fixed_bytes_format 1)) (pair_format (fixed_bytes_format 2) (fixed_bytes_format 3)))
    (pair_format (pair_format (fixed_bytes_format 4) (fixed_list_format 2 bytes_format))
    (pair_format text_format (option_format (number_format 2))))

pub wide_meets : MeetsLaws wide_format
wide_meets =
    triple_meets
    (pair_meets (pair_meets u8_meets u24_meets) (pair_meets u32_meets u64_meets))
    (pair_meets (pair_meets (array_meets 16 (omega arith)) (fixed_bytes_meets 1)) (pair_meets (fixed_bytes_meets 2) (fixed_bytes_meets 3)))
    (pair_meets (pair_meets (fixed_bytes_meets 4) (fixed_list_meets 2 bytes_meets)) (pair_meets text_meets (option_meets u16_meets)))
