-- How many whole elements are at the front of some bytes.
use Rattle.std.specs.Prelude.{ℕ, zero, suc, ◌<◌, List, length, ⊤}
use Rattle.tls_codec_grammar.specs.Grammar.{Grammar, Concat}
use Rattle.tls_codec_base.specs.PartNames.{IsSpelling}

-- a spelling that a list admits of an element: a nonempty one
abbrev pub IsElement : Grammar → List ℕ → Type 0
IsElement spells s = IsSpelling spells s × (0 < length s)

-- no prefix of x is one
abbrev pub NoElementBegins : Grammar → List ℕ → Type 0
NoElementBegins spells x = Concat x (IsElement spells) (λ rest. ⊤) → ⊥

-- x has m whole elements: none if no element begins it, else one more than what follows that element
abbrev pub WholeElements : Grammar → ℕ → List ℕ → Type 0
WholeElements spells zero x = NoElementBegins spells x
WholeElements spells (suc m) x = Concat x (IsElement spells) (WholeElements spells m)
