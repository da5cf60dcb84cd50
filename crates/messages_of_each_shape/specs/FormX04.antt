-- FormX04: what it stands for, its format and its law.
use Rattle.std.proofs.Common.{arith}
use Rattle.std.specs.Prelude.{◌≡◌, ◌==◌, ℕ, Bool, true, refl, List, codes}
use Rattle.tls_codec.specs.OwnMessages.{Tree, Number, Empty, Join, Format, values_format, MeetsLaws, tagged_meets, values_meet}
use Rattle.messages_of_each_shape.specs.declared.form_x04.FormX04.{FormX04}

-- the number of each value
abbrev pub form_x04_code : FormX04 → ℕ
form_x04_code v = 4

-- the name of each value
abbrev pub form_x04_name : FormX04 → List ℕ
form_x04_name v = codes "0x04"

-- whether a value has this number
abbrev pub form_x04_has : ℕ → Bool
form_x04_has n = n == 4

pub form_x04_known : (v : FormX04) → form_x04_has (form_x04_code v) ≡ true
form_x04_known v = refl

abbrev pub form_x04_plain : FormX04 → Tree
form_x04_plain v = Join (Number (form_x04_code v)) Empty

abbrev pub form_x04_format : Format
form_x04_format = values_format 1 form_x04_has

pub form_x04_meets : MeetsLaws form_x04_format
form_x04_meets = tagged_meets 1 (omega arith) (values_meet form_x04_has)
