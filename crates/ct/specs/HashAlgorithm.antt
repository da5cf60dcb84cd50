-- HashAlgorithm: what it stands for, its format and its law.
use Rattle.std.specs.Prelude.{◌∷◌, ℕ, List, [], codes}
use Rattle.tls_codec.specs.OwnMessages.{Tree, Number, Format, number_format, MeetsLaws, u8_meets}
use Rattle.ct.specs.declared.hash_algorithm.HashAlgorithm.{HashAlgorithm}

abbrev pub hash_algorithm_plain : HashAlgorithm → Tree
hash_algorithm_plain v = Number v.0

abbrev pub hash_algorithm_format : Format
hash_algorithm_format = number_format 1

pub hash_algorithm_meets : MeetsLaws hash_algorithm_format
hash_algorithm_meets = u8_meets

-- the numbers that have names
abbrev pub hash_algorithm_names : List (ℕ × List ℕ)
hash_algorithm_names =
    (0, codes "none") ∷
    (1, codes "md5") ∷
    (2, codes "sha1") ∷
    (3, codes "sha224") ∷
    (4, codes "sha256") ∷
    (5, codes "sha384") ∷
    (6, codes "sha512") ∷
    []
