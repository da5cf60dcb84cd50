-- Trees: what it stands for, its format and its law.
use Rattle.tls_codec.specs.OwnMessages.{Tree, Number, trees, option_plain, Format, number_format, option_format, list_format, MeetsLaws, u16_meets, option_meets, list_meets}
use Rattle.messages_of_each_shape.specs.declared.trees.Trees.{Trees}

abbrev pub trees_plain : Trees → Tree
trees_plain v = trees (option_plain (λ v. trees Number v.items)) v.tree.items

abbrev pub trees_format : Format
trees_format = list_format (option_format (list_format (number_format 2)))

pub trees_meets : MeetsLaws trees_format
trees_meets = list_meets (option_meets (list_meets u16_meets))
