-- Lists: what it stands for, its format and its law.
use Rattle.tls_codec.specs.OwnMessages.{Tree, Number, trees, number_trees, Format, number_format, list_format, fixed_list_format, bytes_format, pair_tree, triple_tree, pair_format, triple_format, MeetsLaws, u16_meets, list_meets, fixed_list_meets, bytes_meets, pair_meets, triple_meets}
use Rattle.tls_codec.specs.Contents.{bytes_of, elements_of}
use Rattle.messages_of_each_shape.specs.Level.{level_plain, level_format, level_meets}
use Rattle.messages_of_each_shape.specs.Identity.{identity_plain, identity_format, identity_meets}
use Rattle.messages_of_each_shape.specs.NameType.{name_type_plain, name_type_format, name_type_meets}
use Rattle.messages_of_each_shape.specs.declared.lists.Lists.{Lists}

abbrev pub lists_plain : Lists → Tree
lists_plain v =
    triple_tree
    (triple_tree (trees Number (elements_of v.octets)) (trees level_plain (elements_of v.levels))
    (trees (λ v. number_trees (bytes_of v)) (elements_of v.keys)))
    (triple_tree (trees identity_plain (elements_of v.identities)) (trees (λ v. trees Number v.items) v.rows.items) (Number v.kind))
    (pair_tree (trees name_type_plain v.names.items) (trees Number v.row.items))

abbrev pub lists_format : Format
lists_format =
    triple_format
    (triple_format (fixed_list_format 1 (number_format 2)) (fixed_list_format 2 level_format) (fixed_list_format 3 bytes_format))
    (triple_format (fixed_list_format 4 identity_format) (list_format (list_format (number_format 2))) (number_format 2))
    (pair_format (list_format name_type_format) (list_format (number_format 2)))

pub lists_meets : MeetsLaws lists_format
lists_meets =
    triple_meets
    (triple_meets (fixed_list_meets 1 u16_meets) (fixed_list_meets 2 level_meets) (fixed_list_meets 3 bytes_meets))
    (triple_meets (fixed_list_meets 4 identity_meets) (list_meets (list_meets u16_meets)) u16_meets)
    (pair_meets (list_meets name_type_meets) (list_meets u16_meets))
