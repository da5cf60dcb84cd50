-- WireFormat: what it stands for, its format and its law.
use Rattle.std.specs.Prelude.{◌∷◌, ℕ, List, [], codes}
use Rattle.tls_codec.specs.OwnMessages.{Tree, Number, Format, number_format, MeetsLaws, u16_meets}
use Rattle.mls.specs.declared.wire_format.WireFormat.{WireFormat}

abbrev pub wire_format_plain : WireFormat → Tree
wire_format_plain v = Number v.0

abbrev pub wire_format_format : Format
wire_format_format = number_format 2

pub wire_format_meets : MeetsLaws wire_format_format
wire_format_meets = u16_meets

-- the numbers that have names
abbrev pub wire_format_names : List (ℕ × List ℕ)
wire_format_names =
    (1, codes "mls_public_message") ∷
    (2, codes "mls_private_message") ∷
    (3, codes "mls_welcome") ∷
    (4, codes "mls_group_info") ∷
    (5, codes "mls_key_package") ∷
    []
