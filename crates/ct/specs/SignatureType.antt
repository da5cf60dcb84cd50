-- SignatureType: what it stands for, its format and its law.
use Rattle.std.specs.Prelude.{◌∷◌, ℕ, List, [], codes}
use Rattle.tls_codec.specs.OwnMessages.{Tree, Number, Format, number_format, MeetsLaws, u8_meets}
use Rattle.ct.specs.declared.signature_type.SignatureType.{SignatureType}

abbrev pub signature_type_plain : SignatureType → Tree
signature_type_plain v = Number v.0

abbrev pub signature_type_format : Format
signature_type_format = number_format 1

pub signature_type_meets : MeetsLaws signature_type_format
signature_type_meets = u8_meets

-- the numbers that have names
abbrev pub signature_type_names : List (ℕ × List ℕ)
signature_type_names =
    (0, codes "certificate_timestamp") ∷
    (1, codes "tree_hash") ∷
    []
