-- Which values are full.
use Rattle.std.specs.Prelude.{◌↔◌, ℕ, List}
use Rattle.tls_codec_grammar.specs.Tree.{Tree, Number, Empty, Join}
use Rattle.tls_codec_grammar.specs.Grammar.{Grammar}
use Rattle.tls_codec_grammar.specs.Shortest.{IsFull, IsShortest}

-- if v has a form, it is full exactly if P holds
abbrev pub IsFullIf : Grammar → Tree → Type 0 → Type 0
IsFullIf spells v P = (form : List ℕ) → IsShortest spells form v → (IsFull spells v ↔ P)

-- each element of a list is full
abbrev pub EachIsFull : Grammar → Tree → Type 0
EachIsFull element (Number n) = ⊥
EachIsFull element Empty = Unit {0}
EachIsFull element (Join v vs) = IsFull element v × EachIsFull element vs
