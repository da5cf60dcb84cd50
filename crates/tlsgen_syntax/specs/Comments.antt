-- Where a comment ends, and what it is between its marks.
use Rattle.std.specs.Prelude.{◌≡◌, ◌+◌, ◌++◌, ◌<◌, ℕ, List, Bool, true, false, codes, get_or, length}

-- `*/` begins at this place
abbrev pub EndsAt : List ℕ → ℕ → Type 0
EndsAt bytes at = (at + 1 < length bytes) × (get_or bytes at 0 ≡ 42) × (get_or bytes (at + 1) 0 ≡ 47)

-- no `*/` begins before this place
abbrev pub GoesOn : List ℕ → ℕ → Type 0
GoesOn bytes end = (at : ℕ) → at < end → EndsAt bytes at → ⊥

-- the first `len` bytes end with the first `*/`
abbrev pub IsComment : List ℕ → ℕ → Type 0
IsComment bytes len = (at : ℕ) × (len ≡ at + 2) × GoesOn bytes at × EndsAt bytes at

-- a comment that ends with its line or not, with its marks
abbrev pub marked : Bool → List ℕ → List ℕ
marked true text = codes "//" ++ text
marked false text = codes "/*" ++ text ++ codes "*/"
