-- ProtocolVersionMls10: what it stands for, its format and its law.
use Rattle.std.proofs.Common.{arith}
use Rattle.std.specs.Prelude.{◌≡◌, ◌==◌, ℕ, Bool, true, refl, List, codes}
use Rattle.tls_codec.specs.OwnMessages.{Tree, Number, Empty, Join, Format, values_format, MeetsLaws, tagged_meets, values_meet}
use Rattle.mls_group.specs.declared.protocol_version_mls10.ProtocolVersionMls10.{ProtocolVersionMls10}

-- the number of each value
abbrev pub protocol_version_mls10_code : ProtocolVersionMls10 → ℕ
protocol_version_mls10_code v = 1

-- the name of each value
abbrev pub protocol_version_mls10_name : ProtocolVersionMls10 → List ℕ
protocol_version_mls10_name v = codes "mls10"

-- whether a value has this number
abbrev pub protocol_version_mls10_has : ℕ → Bool
protocol_version_mls10_has n = n == 1

pub protocol_version_mls10_known : (v : ProtocolVersionMls10) → protocol_version_mls10_has (protocol_version_mls10_code v) ≡ true
protocol_version_mls10_known v = refl

abbrev pub protocol_version_mls10_plain : ProtocolVersionMls10 → Tree
protocol_version_mls10_plain v = Join (Number (protocol_version_mls10_code v)) Empty

abbrev pub protocol_version_mls10_format : Format
protocol_version_mls10_format = values_format 2 protocol_version_mls10_has

pub protocol_version_mls10_meets : MeetsLaws protocol_version_mls10_format
protocol_version_mls10_meets = tagged_meets 2 (omega arith) (values_meet protocol_version_mls10_has)
