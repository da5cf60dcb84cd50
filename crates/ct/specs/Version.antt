-- Version: what it stands for, its format and its law.
use Rattle.std.proofs.Common.{arith}
use Rattle.std.specs.Prelude.{◌≡◌, ◌==◌, ℕ, Bool, true, refl, List, codes}
use Rattle.tls_codec.specs.OwnMessages.{Tree, Number, Empty, Join, Format, values_format, MeetsLaws, tagged_meets, values_meet}
use Rattle.ct.specs.declared.version.Version.{Version}

-- the number of each value
abbrev pub version_code : Version → ℕ
version_code v = 0

-- the name of each value
abbrev pub version_name : Version → List ℕ
version_name v = codes "v1"

-- whether a value has this number
abbrev pub version_has : ℕ → Bool
version_has n = n == 0

pub version_known : (v : Version) → version_has (version_code v) ≡ true
version_known v = refl

abbrev pub version_plain : Version → Tree
version_plain v = Join (Number (version_code v)) Empty

abbrev pub version_format : Format
version_format = values_format 1 version_has

pub version_meets : MeetsLaws version_format
version_meets = tagged_meets 1 (omega arith) (values_meet version_has)
