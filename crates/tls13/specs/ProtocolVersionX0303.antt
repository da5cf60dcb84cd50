-- ProtocolVersionX0303: what it stands for, its format and its law.
use Rattle.std.proofs.Common.{arith}
use Rattle.std.specs.Prelude.{◌≡◌, ◌==◌, ℕ, Bool, true, refl, List, codes}
use Rattle.tls_codec.specs.OwnMessages.{Tree, Number, Empty, Join, Format, values_format, MeetsLaws, tagged_meets, values_meet}
use Rattle.tls13.specs.declared.protocol_version_x0303.ProtocolVersionX0303.{ProtocolVersionX0303}

-- the number of each value
abbrev pub protocol_version_x0303_code : ProtocolVersionX0303 → ℕ
protocol_version_x0303_code v = 771

-- the name of each value
abbrev pub protocol_version_x0303_name : ProtocolVersionX0303 → List ℕ
protocol_version_x0303_name v = codes "0x0303"

-- whether a value has this number
abbrev pub protocol_version_x0303_has : ℕ → Bool
protocol_version_x0303_has n = n == 771

pub protocol_version_x0303_known : (v : ProtocolVersionX0303) → protocol_version_x0303_has (protocol_version_x0303_code v) ≡ true
protocol_version_x0303_known v = refl

abbrev pub protocol_version_x0303_plain : ProtocolVersionX0303 → Tree
protocol_version_x0303_plain v = Join (Number (protocol_version_x0303_code v)) Empty

abbrev pub protocol_version_x0303_format : Format
protocol_version_x0303_format = values_format 2 protocol_version_x0303_has

pub protocol_version_x0303_meets : MeetsLaws protocol_version_x0303_format
protocol_version_x0303_meets = tagged_meets 2 (omega arith) (values_meet protocol_version_x0303_has)
