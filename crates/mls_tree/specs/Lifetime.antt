-- Lifetime: what it stands for, its format and its law.
use Rattle.tls_codec.specs.OwnMessages.{Tree, Number, Format, number_format, pair_tree, pair_format, MeetsLaws, u64_meets, pair_meets}
use Rattle.mls_tree.specs.declared.lifetime.Lifetime.{Lifetime}

abbrev pub lifetime_plain : Lifetime → Tree
lifetime_plain v = pair_tree (Number v.not_before) (Number v.not_after)

abbrev pub lifetime_format : Format
lifetime_format = pair_format (number_format 8) (number_format 8)

pub lifetime_meets : MeetsLaws lifetime_format
lifetime_meets = pair_meets u64_meets u64_meets
