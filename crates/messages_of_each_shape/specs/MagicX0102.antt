-- MagicX0102: what it stands for, its format and its law.
use Rattle.std.proofs.Common.{arith}
use Rattle.std.specs.Prelude.{◌≡◌, ◌==◌, ℕ, Bool, true, refl, List, codes}
use Rattle.tls_codec.specs.OwnMessages.{Tree, Number, Empty, Join, Format, values_format, MeetsLaws, tagged_meets, values_meet}
use Rattle.messages_of_each_shape.specs.declared.magic_x0102.MagicX0102.{MagicX0102}

-- the number of each value
abbrev pub magic_x0102_code : MagicX0102 → ℕ
magic_x0102_code v = 258

-- the name of each value
abbrev pub magic_x0102_name : MagicX0102 → List ℕ
magic_x0102_name v = codes "0x0102"

-- whether a value has this number
abbrev pub magic_x0102_has : ℕ → Bool
magic_x0102_has n = n == 258

pub magic_x0102_known : (v : MagicX0102) → magic_x0102_has (magic_x0102_code v) ≡ true
magic_x0102_known v = refl

abbrev pub magic_x0102_plain : MagicX0102 → Tree
magic_x0102_plain v = Join (Number (magic_x0102_code v)) Empty

abbrev pub magic_x0102_format : Format
magic_x0102_format = values_format 2 magic_x0102_has

pub magic_x0102_meets : MeetsLaws magic_x0102_format
magic_x0102_meets = tagged_meets 2 (omega arith) (values_meet magic_x0102_has)
