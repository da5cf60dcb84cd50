-- PskKeyExchangeMode: what it stands for, its format and its law.
use Rattle.std.specs.Prelude.{◌∷◌, ℕ, List, [], codes}
use Rattle.tls_codec.specs.OwnMessages.{Tree, Number, Format, number_format, MeetsLaws, u8_meets}
use Rattle.tls13.specs.declared.psk_key_exchange_mode.PskKeyExchangeMode.{PskKeyExchangeMode}

abbrev pub psk_key_exchange_mode_plain : PskKeyExchangeMode → Tree
psk_key_exchange_mode_plain v = Number v.0

abbrev pub psk_key_exchange_mode_format : Format
psk_key_exchange_mode_format = number_format 1

pub psk_key_exchange_mode_meets : MeetsLaws psk_key_exchange_mode_format
psk_key_exchange_mode_meets = u8_meets

-- the numbers that have names
abbrev pub psk_key_exchange_mode_names : List (ℕ × List ℕ)
psk_key_exchange_mode_names =
    (0, codes "psk_ke") ∷
    (1, codes "psk_dhe_ke") ∷
    []
