-- ContentType: what it stands for, its format and its law.
use Rattle.std.specs.Prelude.{◌∷◌, ℕ, List, [], codes}
use Rattle.tls_codec.specs.OwnMessages.{Tree, Number, Format, number_format, MeetsLaws, u8_meets}
use Rattle.tls13.specs.declared.content_type.ContentType.{ContentType}

abbrev pub content_type_plain : ContentType → Tree
content_type_plain v = Number v.0

abbrev pub content_type_format : Format
content_type_format = number_format 1

pub content_type_meets : MeetsLaws content_type_format
content_type_meets = u8_meets

-- the numbers that have names
abbrev pub content_type_names : List (ℕ × List ℕ)
content_type_names =
    (0, codes "invalid") ∷
    (20, codes "change_cipher_spec") ∷
    (21, codes "alert") ∷
    (22, codes "handshake") ∷
    (23, codes "application_data") ∷
    (24, codes "heartbeat") ∷
    []
