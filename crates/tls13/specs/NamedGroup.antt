-- NamedGroup: what it stands for, its format and its law.
use Rattle.std.specs.Prelude.{◌∷◌, ℕ, List, [], codes}
use Rattle.tls_codec.specs.OwnMessages.{Tree, Number, Format, number_format, MeetsLaws, u16_meets}
use Rattle.tls13.specs.declared.named_group.NamedGroup.{NamedGroup}

abbrev pub named_group_plain : NamedGroup → Tree
named_group_plain v = Number v.0

abbrev pub named_group_format : Format
named_group_format = number_format 2

pub named_group_meets : MeetsLaws named_group_format
named_group_meets = u16_meets

-- the numbers that have names
abbrev pub named_group_names : List (ℕ × List ℕ)
named_group_names =
    (0, codes "unallocated_RESERVED") ∷
    (23, codes "secp256r1") ∷
    (24, codes "secp384r1") ∷
    (25, codes "secp521r1") ∷
    (29, codes "x25519") ∷
    (30, codes "x448") ∷
    (256, codes "ffdhe2048") ∷
    (257, codes "ffdhe3072") ∷
    (258, codes "ffdhe4096") ∷
    (259, codes "ffdhe6144") ∷
    (260, codes "ffdhe8192") ∷
    []
