-- MerkleLeafType: what it stands for, its format and its law.
use Rattle.std.proofs.Common.{arith}
use Rattle.std.specs.Prelude.{◌≡◌, ◌==◌, ℕ, Bool, true, refl, List, codes}
use Rattle.tls_codec.specs.OwnMessages.{Tree, Number, Empty, Join, Format, values_format, MeetsLaws, tagged_meets, values_meet}
use Rattle.ct.specs.declared.merkle_leaf_type.MerkleLeafType.{MerkleLeafType}

-- the number of each value
abbrev pub merkle_leaf_type_code : MerkleLeafType → ℕ
merkle_leaf_type_code v = 0

-- the name of each value
abbrev pub merkle_leaf_type_name : MerkleLeafType → List ℕ
merkle_leaf_type_name v = codes "timestamped_entry"

-- whether a value has this number
abbrev pub merkle_leaf_type_has : ℕ → Bool
merkle_leaf_type_has n = n == 0

pub merkle_leaf_type_known : (v : MerkleLeafType) → merkle_leaf_type_has (merkle_leaf_type_code v) ≡ true
merkle_leaf_type_known v = refl

abbrev pub merkle_leaf_type_plain : MerkleLeafType → Tree
merkle_leaf_type_plain v = Join (Number (merkle_leaf_type_code v)) Empty

abbrev pub merkle_leaf_type_format : Format
merkle_leaf_type_format = values_format 1 merkle_leaf_type_has

pub merkle_leaf_type_meets : MeetsLaws merkle_leaf_type_format
merkle_leaf_type_meets = tagged_meets 1 (omega arith) (values_meet merkle_leaf_type_has)
