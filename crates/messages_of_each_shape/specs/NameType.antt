-- NameType: what it stands for, its format and its law.
use Rattle.std.specs.Prelude.{◌∷◌, ℕ, List, [], codes}
use Rattle.tls_codec.specs.OwnMessages.{Tree, Number, Format, number_format, MeetsLaws, u8_meets}
use Rattle.messages_of_each_shape.specs.declared.name_type.NameType.{NameType}

abbrev pub name_type_plain : NameType → Tree
name_type_plain v = Number v.0

abbrev pub name_type_format : Format
name_type_format = number_format 1

pub name_type_meets : MeetsLaws name_type_format
name_type_meets = u8_meets

-- the numbers that have names
abbrev pub name_type_names : List (ℕ × List ℕ)
name_type_names =
    (0, codes "host_name") ∷
    []

-- the number of a value, from what the value stands for
abbrev pub name_type_selected : Tree → ℕ
name_type_selected (Number tag) = tag
name_type_selected _ = 0
