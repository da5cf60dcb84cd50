-- VersionXfefd: what it stands for, its format and its law.
use Rattle.std.proofs.Common.{arith}
use Rattle.std.specs.Prelude.{◌≡◌, ◌==◌, ℕ, Bool, true, refl, List, codes}
use Rattle.tls_codec.specs.OwnMessages.{Tree, Number, Empty, Join, Format, values_format, MeetsLaws, tagged_meets, values_meet}
use Rattle.messages_of_each_shape.specs.declared.version_xfefd.VersionXfefd.{VersionXfefd}

-- the number of each value
abbrev pub version_xfefd_code : VersionXfefd → ℕ
version_xfefd_code v = 65277

-- the name of each value
abbrev pub version_xfefd_name : VersionXfefd → List ℕ
version_xfefd_name v = codes "0xfefd"

-- whether a value has this number
abbrev pub version_xfefd_has : ℕ → Bool
version_xfefd_has n = n == 65277

pub version_xfefd_known : (v : VersionXfefd) → version_xfefd_has (version_xfefd_code v) ≡ true
version_xfefd_known v = refl

abbrev pub version_xfefd_plain : VersionXfefd → Tree
version_xfefd_plain v = Join (Number (version_xfefd_code v)) Empty

abbrev pub version_xfefd_format : Format
version_xfefd_format = values_format 2 version_xfefd_has

pub version_xfefd_meets : MeetsLaws version_xfefd_format
version_xfefd_meets = tagged_meets 2 (omega arith) (values_meet version_xfefd_has)
