-- ExtensionType: what it stands for, its format and its law.
use Rattle.std.specs.Prelude.{◌∷◌, ℕ, List, [], codes}
use Rattle.tls_codec.specs.OwnMessages.{Tree, Number, Format, number_format, MeetsLaws, u16_meets}
use Rattle.mls_tree.specs.declared.extension_type.ExtensionType.{ExtensionType}

abbrev pub extension_type_plain : ExtensionType → Tree
extension_type_plain v = Number v.0

abbrev pub extension_type_format : Format
extension_type_format = number_format 2

pub extension_type_meets : MeetsLaws extension_type_format
extension_type_meets = u16_meets

-- the numbers that have names
abbrev pub extension_type_names : List (ℕ × List ℕ)
extension_type_names =
    (1, codes "application_id") ∷
    (2, codes "ratchet_tree") ∷
    (3, codes "required_capabilities") ∷
    (4, codes "external_pub") ∷
    (5, codes "external_senders") ∷
    []
