-- SignatureAlgorithm: what it stands for, its format and its law.
use Rattle.std.specs.Prelude.{◌∷◌, ℕ, List, [], codes}
use Rattle.tls_codec.specs.OwnMessages.{Tree, Number, Format, number_format, MeetsLaws, u8_meets}
use Rattle.ct.specs.declared.signature_algorithm.SignatureAlgorithm.{SignatureAlgorithm}

abbrev pub signature_algorithm_plain : SignatureAlgorithm → Tree
signature_algorithm_plain v = Number v.0

abbrev pub signature_algorithm_format : Format
signature_algorithm_format = number_format 1

pub signature_algorithm_meets : MeetsLaws signature_algorithm_format
signature_algorithm_meets = u8_meets

-- the numbers that have names
abbrev pub signature_algorithm_names : List (ℕ × List ℕ)
signature_algorithm_names =
    (0, codes "anonymous") ∷
    (1, codes "rsa") ∷
    (2, codes "dsa") ∷
    (3, codes "ecdsa") ∷
    []
