-- ProtocolVersion: what it stands for, its format and its law.
use Rattle.std.specs.Prelude.{◌∷◌, ℕ, List, [], codes}
use Rattle.tls_codec.specs.OwnMessages.{Tree, Number, Format, number_format, MeetsLaws, u16_meets}
use Rattle.mls_tree.specs.declared.protocol_version.ProtocolVersion.{ProtocolVersion}

abbrev pub protocol_version_plain : ProtocolVersion → Tree
protocol_version_plain v = Number v.0

abbrev pub protocol_version_format : Format
protocol_version_format = number_format 2

pub protocol_version_meets : MeetsLaws protocol_version_format
protocol_version_meets = u16_meets

-- the numbers that have names
abbrev pub protocol_version_names : List (ℕ × List ℕ)
protocol_version_names =
    (1, codes "mls10") ∷
    []
