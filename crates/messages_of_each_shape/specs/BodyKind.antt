-- BodyKind: what it stands for, its format and its law.
use Rattle.std.proofs.Common.{arith}
use Rattle.std.specs.Prelude.{◌≡◌, ◌==◌, ◌||◌, ℕ, Bool, true, refl, List, codes}
use Rattle.tls_codec.specs.OwnMessages.{Tree, Number, Empty, Join, Format, values_format, MeetsLaws, tagged_meets, values_meet}
use Rattle.messages_of_each_shape.specs.declared.body_kind.BodyKind.{BodyKind}
use Rattle.messages_of_each_shape.specs.declared.body_kind.BodyKind.TheVariants.{Chat, File}

-- the number of each value
abbrev pub body_kind_code : BodyKind → ℕ
body_kind_code Chat = 1
body_kind_code File = 2

-- the name of each value
abbrev pub body_kind_name : BodyKind → List ℕ
body_kind_name Chat = codes "chat"
body_kind_name File = codes "file"

-- whether a value has this number
abbrev pub body_kind_has : ℕ → Bool
body_kind_has n = (n == 1) || (n == 2)

pub body_kind_known : (v : BodyKind) → body_kind_has (body_kind_code v) ≡ true
body_kind_known Chat = refl
body_kind_known File = refl

abbrev pub body_kind_plain : BodyKind → Tree
body_kind_plain v = Join (Number (body_kind_code v)) Empty

abbrev pub body_kind_format : Format
body_kind_format = values_format 1 body_kind_has

pub body_kind_meets : MeetsLaws body_kind_format
body_kind_meets = tagged_meets 1 (omega arith) (values_meet body_kind_has)

-- the number of a value, from what the value stands for
abbrev pub body_kind_selected : Tree → ℕ
body_kind_selected (Join (Number tag) vs) = tag
body_kind_selected _ = 0
