-- What of a text is layout: blanks, and a comma before a closing bracket.
use Rattle.std.specs.Prelude.{ℕ, Bool, List, [], ◌∷◌, ◌==◌, ◌&&◌, ◌||◌, false, if◌then◌else◌}

abbrev pub is_blank : ℕ → Bool
is_blank b = (b == 32) || (b == 10) || (b == 9) || (b == 13)

abbrev pub is_closing : ℕ → Bool
is_closing b = (b == 41) || (b == 93) || (b == 125) || (b == 62)

-- whether a closing bracket comes next, after any blanks
unfoldable pub closes : List ℕ → Bool
closes [] = false
closes (b ∷ bs) = if is_blank b then closes bs else is_closing b

abbrev pub is_layout : ℕ → List ℕ → Bool
is_layout b bs = is_blank b || ((b == 44) && closes bs)

-- a text without its layout
unfoldable pub significant : List ℕ → List ℕ
significant [] = []
significant (b ∷ bs) = if is_layout b bs then significant bs else b ∷ significant bs
