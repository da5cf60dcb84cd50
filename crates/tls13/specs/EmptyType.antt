-- EmptyType: what it stands for, its format and its law.
use Rattle.tls_codec.specs.OwnMessages.{Tree, Empty, Format, nothing_format, MeetsLaws, nothing_meets}
use Rattle.tls13.specs.declared.empty_type.EmptyType.{EmptyType}

abbrev pub empty_type_plain : EmptyType → Tree
empty_type_plain v = Empty

abbrev pub empty_type_format : Format
empty_type_format = nothing_format

pub empty_type_meets : MeetsLaws empty_type_format
empty_type_meets = nothing_meets
