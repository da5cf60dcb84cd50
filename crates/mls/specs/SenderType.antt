-- SenderType: what it stands for, its format and its law.
use Rattle.std.proofs.Common.{arith}
use Rattle.std.specs.Prelude.{◌≡◌, ◌==◌, ◌||◌, ℕ, Bool, true, refl, List, codes}
use Rattle.tls_codec.specs.OwnMessages.{Tree, Number, Empty, Join, Format, values_format, MeetsLaws, tagged_meets, values_meet}
use Rattle.mls.specs.declared.sender_type.SenderType.{SenderType}
use Rattle.mls.specs.declared.sender_type.SenderType.TheVariants.{Member, External, NewMemberProposal, NewMemberCommit}

-- the number of each value
abbrev pub sender_type_code : SenderType → ℕ
sender_type_code Member = 1
sender_type_code External = 2
sender_type_code NewMemberProposal = 3
sender_type_code NewMemberCommit = 4

-- the name of each value
abbrev pub sender_type_name : SenderType → List ℕ
sender_type_name Member = codes "member"
sender_type_name External = codes "external"
sender_type_name NewMemberProposal = codes "new_member_proposal"
sender_type_name NewMemberCommit = codes "new_member_commit"

-- whether a value has this number
abbrev pub sender_type_has : ℕ → Bool
sender_type_has n = (n == 1) || ((n == 2) || ((n == 3) || (n == 4)))

pub sender_type_known : (v : SenderType) → sender_type_has (sender_type_code v) ≡ true
sender_type_known Member = refl
sender_type_known External = refl
sender_type_known NewMemberProposal = refl
sender_type_known NewMemberCommit = refl

abbrev pub sender_type_plain : SenderType → Tree
sender_type_plain v = Join (Number (sender_type_code v)) Empty

abbrev pub sender_type_format : Format
sender_type_format = values_format 1 sender_type_has

pub sender_type_meets : MeetsLaws sender_type_format
sender_type_meets = tagged_meets 1 (omega arith) (values_meet sender_type_has)

-- the number of a value, from what the value stands for
abbrev pub sender_type_selected : Tree → ℕ
sender_type_selected (Join (Number tag) vs) = tag
sender_type_selected _ = 0
