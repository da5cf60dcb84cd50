-- EmptyType: what it stands for, its format and its law.
use Rattle.std.specs.Prelude.{ℕ, List, []}
use Rattle.tls_codec.specs.OwnMessages.{Tree, Number, Format, number_format, MeetsLaws, u8_meets}
use Rattle.messages_of_each_shape.specs.declared.empty_type.EmptyType.{EmptyType}

abbrev pub empty_type_plain : EmptyType → Tree
empty_type_plain v = Number v.0

abbrev pub empty_type_format : Format
empty_type_format = number_format 1

pub empty_type_meets : MeetsLaws empty_type_format
empty_type_meets = u8_meets

-- the numbers that have names
abbrev pub empty_type_names : List (ℕ × List ℕ)
empty_type_names =
    []
