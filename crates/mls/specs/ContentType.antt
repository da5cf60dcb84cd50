-- ContentType: what it stands for, its format and its law.
use Rattle.std.proofs.Common.{arith}
use Rattle.std.specs.Prelude.{◌≡◌, ◌==◌, ◌||◌, ℕ, Bool, true, refl, List, codes}
use Rattle.tls_codec.specs.OwnMessages.{Tree, Number, Empty, Join, Format, values_format, MeetsLaws, tagged_meets, values_meet}
use Rattle.mls.specs.declared.content_type.ContentType.{ContentType}
use Rattle.mls.specs.declared.content_type.ContentType.TheVariants.{Application, Proposal, Commit}

-- the number of each value
abbrev pub content_type_code : ContentType → ℕ
content_type_code Application = 1
content_type_code Proposal = 2
content_type_code Commit = 3

-- the name of each value
abbrev pub content_type_name : ContentType → List ℕ
content_type_name Application = codes "application"
content_type_name Proposal = codes "proposal"
content_type_name Commit = codes "commit"

-- whether a value has this number
abbrev pub content_type_has : ℕ → Bool
content_type_has n = (n == 1) || ((n == 2) || (n == 3))

pub content_type_known : (v : ContentType) → content_type_has (content_type_code v) ≡ true
content_type_known Application = refl
content_type_known Proposal = refl
content_type_known Commit = refl

abbrev pub content_type_plain : ContentType → Tree
content_type_plain v = Join (Number (content_type_code v)) Empty

abbrev pub content_type_format : Format
content_type_format = values_format 1 content_type_has

pub content_type_meets : MeetsLaws content_type_format
content_type_meets = tagged_meets 1 (omega arith) (values_meet content_type_has)

-- the number of a value, from what the value stands for
abbrev pub content_type_selected : Tree → ℕ
content_type_selected (Join (Number tag) vs) = tag
content_type_selected _ = 0
