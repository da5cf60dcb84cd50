-- AlertLevel: what it stands for, its format and its law.
use Rattle.std.specs.Prelude.{◌∷◌, ℕ, List, [], codes}
use Rattle.tls_codec.specs.OwnMessages.{Tree, Number, Format, number_format, MeetsLaws, u8_meets}
use Rattle.tls13.specs.declared.alert_level.AlertLevel.{AlertLevel}

abbrev pub alert_level_plain : AlertLevel → Tree
alert_level_plain v = Number v.0

abbrev pub alert_level_format : Format
alert_level_format = number_format 1

pub alert_level_meets : MeetsLaws alert_level_format
alert_level_meets = u8_meets

-- the numbers that have names
abbrev pub alert_level_names : List (ℕ × List ℕ)
alert_level_names =
    (1, codes "warning") ∷
    (2, codes "fatal") ∷
    []
