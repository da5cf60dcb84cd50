-- Level: what it stands for, its format and its law.
use Rattle.std.proofs.Common.{arith}
use Rattle.std.specs.Prelude.{◌≡◌, ◌==◌, ◌||◌, ℕ, Bool, true, refl, List, codes}
use Rattle.tls_codec.specs.OwnMessages.{Tree, Number, Empty, Join, Format, values_format, MeetsLaws, tagged_meets, values_meet}
use Rattle.messages_of_each_shape.specs.declared.level.Level.{Level}
use Rattle.messages_of_each_shape.specs.declared.level.Level.TheVariants.{Low, Middle, High}

-- the number of each value
abbrev pub level_code : Level → ℕ
level_code Low = 1
level_code Middle = 256
level_code High = 65535

-- the name of each value
abbrev pub level_name : Level → List ℕ
level_name Low = codes "low"
level_name Middle = codes "middle"
level_name High = codes "high"

-- whether a value has this number
abbrev pub level_has : ℕ → Bool
level_has n = (n == 1) || ((n == 256) || (n == 65535))

pub level_known : (v : Level) → level_has (level_code v) ≡ true
level_known Low = refl
level_known Middle = refl
level_known High = refl

abbrev pub level_plain : Level → Tree
level_plain v = Join (Number (level_code v)) Empty

abbrev pub level_format : Format
level_format = values_format 2 level_has

pub level_meets : MeetsLaws level_format
level_meets = tagged_meets 2 (omega arith) (values_meet level_has)
