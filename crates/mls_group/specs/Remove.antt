-- Remove: what it stands for, its format and its law.
use Rattle.tls_codec.specs.OwnMessages.{Tree, Number, Format, number_format, MeetsLaws, u32_meets}
use Rattle.mls_group.specs.declared.remove.Remove.{Remove}

abbrev pub remove_plain : Remove → Tree
remove_plain v = Number v.removed

abbrev pub remove_format : Format
remove_format = number_format 4

pub remove_meets : MeetsLaws remove_format
remove_meets = u32_meets
