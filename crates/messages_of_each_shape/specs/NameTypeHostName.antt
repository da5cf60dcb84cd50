-- NameTypeHostName: what it stands for, its format and its law.
use Rattle.std.proofs.Common.{arith}
use Rattle.std.specs.Prelude.{◌≡◌, ◌==◌, ℕ, Bool, true, refl, List, codes}
use Rattle.tls_codec.specs.OwnMessages.{Tree, Number, Empty, Join, Format, values_format, MeetsLaws, tagged_meets, values_meet}
use Rattle.messages_of_each_shape.specs.declared.name_type_host_name.NameTypeHostName.{NameTypeHostName}

-- the number of each value
abbrev pub name_type_host_name_code : NameTypeHostName → ℕ
name_type_host_name_code v = 0

-- the name of each value
abbrev pub name_type_host_name_name : NameTypeHostName → List ℕ
name_type_host_name_name v = codes "host_name"

-- whether a value has this number
abbrev pub name_type_host_name_has : ℕ → Bool
name_type_host_name_has n = n == 0

pub name_type_host_name_known : (v : NameTypeHostName) → name_type_host_name_has (name_type_host_name_code v) ≡ true
name_type_host_name_known v = refl

abbrev pub name_type_host_name_plain : NameTypeHostName → Tree
name_type_host_name_plain v = Join (Number (name_type_host_name_code v)) Empty

abbrev pub name_type_host_name_format : Format
name_type_host_name_format = values_format 1 name_type_host_name_has

pub name_type_host_name_meets : MeetsLaws name_type_host_name_format
name_type_host_name_meets = tagged_meets 1 (omega arith) (values_meet name_type_host_name_has)
