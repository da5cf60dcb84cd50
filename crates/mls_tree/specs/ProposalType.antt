-- ProposalType: what it stands for, its format and its law.
use Rattle.std.specs.Prelude.{◌∷◌, ℕ, List, [], codes}
use Rattle.tls_codec.specs.OwnMessages.{Tree, Number, Format, number_format, MeetsLaws, u16_meets}
use Rattle.mls_tree.specs.declared.proposal_type.ProposalType.{ProposalType}

abbrev pub proposal_type_plain : ProposalType → Tree
proposal_type_plain v = Number v.0

abbrev pub proposal_type_format : Format
proposal_type_format = number_format 2

pub proposal_type_meets : MeetsLaws proposal_type_format
proposal_type_meets = u16_meets

-- the numbers that have names
abbrev pub proposal_type_names : List (ℕ × List ℕ)
proposal_type_names =
    (1, codes "add") ∷
    (2, codes "update") ∷
    (3, codes "remove") ∷
    (4, codes "psk") ∷
    (5, codes "reinit") ∷
    (6, codes "external_init") ∷
    (7, codes "group_context_extensions") ∷
    []
