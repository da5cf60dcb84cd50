-- Which lists have a spelling, and what begins with one spelling alone.
use Rattle.std.specs.Prelude.{◌≡◌, ◌<◌, ℕ, List, [], length}
use Rattle.tls_codec_grammar.specs.Tree.{Tree, Number, Empty, Join}
use Rattle.tls_codec_grammar.specs.Grammar.{Grammar, Reading, Concat}
use Rattle.tls_codec_grammar.specs.Shortest.{IsShortest}
use Rattle.tls_codec_grammar.specs.Decoding.{Begins}

-- v has a reading spelling
abbrev pub HasReadingSpelling : Grammar → Tree → Type 0
HasReadingSpelling spells v = (s : List ℕ) × spells Reading s v

-- v has a reading spelling that isn't empty
abbrev pub HasNonemptySpelling : Grammar → Tree → Type 0
HasNonemptySpelling spells v = (s : List ℕ) × spells Reading s v × (0 < length s)

-- each element of a list has one
abbrev pub EachHasNonemptySpelling : Grammar → Tree → Type 0
EachHasNonemptySpelling element (Number n) = ⊥
EachHasNonemptySpelling element Empty = Unit {0}
EachHasNonemptySpelling element (Join v vs) = HasNonemptySpelling element v × EachHasNonemptySpelling element vs

-- the shortest forms of a list's elements, in a row
abbrev pub ShortestInARow : Grammar → List ℕ → Tree → Type 0
ShortestInARow element c (Number n) = ⊥
ShortestInARow element c Empty = c ≡ []
ShortestInARow element c (Join v vs) = Concat c (λ s. IsShortest element s v) (λ s. ShortestInARow element s vs)

-- together they have as many bytes as a length field holds
pub record FitTogether (element : Grammar) (holds : ℕ → Type 0) (v : Tree) : Type 0 where
  pub forms : List ℕ
  pub in_a_row : ShortestInARow element forms v
  pub fits : holds (length forms)

-- x begins with just one spelling, which is one of v and leaves rest
pub record BeginsWithOne (spells : Grammar) (x : List ℕ) (v : Tree) (rest : List ℕ) : Type 0 where
  pub begins : Begins spells x v rest
  pub alone : (w : Tree) (left : List ℕ) (b : Begins spells x w left) → (b.front ≡ begins.front) × (w ≡ v) × (left ≡ rest)
