-- The bytes of lines, in a row.
use Rattle.std.specs.Prelude.{◌≡◌, ℕ, List, [], ◌∷◌, ◌++◌, Option, Some, None, ⊤}
use Rattle.tlsdump.specs.declared.walk.line.Line.{Line}
use Rattle.tlsdump.specs.declared.walk.Walked.{Walked}

-- the bytes that the lines show, in a row
abbrev pub row : List Line → List ℕ
row [] = []
row (line ∷ lines) = line.bytes.now ++ row lines

-- nothing is left, unless a field is rejected
abbrev pub IsAll : Option ℕ → List ℕ → Type 0
IsAll None rest = rest ≡ []
IsAll (Some rejected_at) rest = ⊤

-- the lines show the first of the bytes, none left out or shown twice; and all of them, unless a
-- field is rejected
pub record ShowsInOrder (bytes : List ℕ) (rejected_at : Option ℕ) (walked : Walked) : Type 0 where
  pub rest : List ℕ
  pub whole : bytes ≡ row walked.lines.items ++ rest
  pub all : IsAll rejected_at rest
