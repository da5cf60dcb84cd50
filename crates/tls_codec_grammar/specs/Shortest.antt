-- Shortest forms, hollow types and full values.
use Rattle.std.specs.Prelude.{◌≡◌, ◌<◌, ◌⊎◌, ℕ, List, [], length}
use Rattle.tls_codec_grammar.specs.Tree.{Tree}
use Rattle.tls_codec_grammar.specs.Grammar.{Grammar, Reading, Writing}

-- s is one of these, and every other one has more bytes
pub record IsLeast (Spelled : List ℕ → Type 0) (s : List ℕ) : Type 0 where
  pub spelled : Spelled s
  pub least : (t : List ℕ) → Spelled t → (t ≡ s) ⊎ (length s < length t)

-- s is the shortest form of v: every other writing spelling of v has more bytes
abbrev pub IsShortest : Grammar → List ℕ → Tree → Type 0
IsShortest spells s v = IsLeast (λ t. spells Writing t v) s

-- the empty byte list spells a value of the type
abbrev pub IsHollow : Grammar → Type 0
IsHollow spells = (v : Tree) × spells Reading [] v

-- each writing spelling of v is a reading spelling of it
abbrev pub IsFull : Grammar → Tree → Type 0
IsFull spells v = (t : List ℕ) → spells Writing t v → spells Reading t v

-- v has no writing spelling of any width
abbrev pub HasNoSpelling : Grammar → Tree → Type 0
HasNoSpelling spells v = (s : List ℕ) → spells Writing s v → ⊥
