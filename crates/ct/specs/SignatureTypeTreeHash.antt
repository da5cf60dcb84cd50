-- SignatureTypeTreeHash: what it stands for, its format and its law.
use Rattle.std.proofs.Common.{arith}
use Rattle.std.specs.Prelude.{◌≡◌, ◌==◌, ℕ, Bool, true, refl, List, codes}
use Rattle.tls_codec.specs.OwnMessages.{Tree, Number, Empty, Join, Format, values_format, MeetsLaws, tagged_meets, values_meet}
use Rattle.ct.specs.declared.signature_type_tree_hash.SignatureTypeTreeHash.{SignatureTypeTreeHash}

-- the number of each value
abbrev pub signature_type_tree_hash_code : SignatureTypeTreeHash → ℕ
signature_type_tree_hash_code v = 1

-- the name of each value
abbrev pub signature_type_tree_hash_name : SignatureTypeTreeHash → List ℕ
signature_type_tree_hash_name v = codes "tree_hash"

-- whether a value has this number
abbrev pub signature_type_tree_hash_has : ℕ → Bool
signature_type_tree_hash_has n = n == 1

pub signature_type_tree_hash_known : (v : SignatureTypeTreeHash) → signature_type_tree_hash_has (signature_type_tree_hash_code v) ≡ true
signature_type_tree_hash_known v = refl

abbrev pub signature_type_tree_hash_plain : SignatureTypeTreeHash → Tree
signature_type_tree_hash_plain v = Join (Number (signature_type_tree_hash_code v)) Empty

abbrev pub signature_type_tree_hash_format : Format
signature_type_tree_hash_format = values_format 1 signature_type_tree_hash_has

pub signature_type_tree_hash_meets : MeetsLaws signature_type_tree_hash_format
signature_type_tree_hash_meets = tagged_meets 1 (omega arith) (values_meet signature_type_tree_hash_has)
