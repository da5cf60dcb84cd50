-- CredentialType: what it stands for, its format and its law.
use Rattle.std.specs.Prelude.{◌∷◌, ℕ, List, [], codes}
use Rattle.tls_codec.specs.OwnMessages.{Tree, Number, Format, number_format, MeetsLaws, u16_meets}
use Rattle.mls_tree.specs.declared.credential_type.CredentialType.{CredentialType}

abbrev pub credential_type_plain : CredentialType → Tree
credential_type_plain v = Number v.0

abbrev pub credential_type_format : Format
credential_type_format = number_format 2

pub credential_type_meets : MeetsLaws credential_type_format
credential_type_meets = u16_meets

-- the numbers that have names
abbrev pub credential_type_names : List (ℕ × List ℕ)
credential_type_names =
    (1, codes "basic") ∷
    (2, codes "x509") ∷
    []
