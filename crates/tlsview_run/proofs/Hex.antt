-- Hex in lower case, of two pieces.
use Rattle.std.proofs.Common.{◌≡◌, ℕ, List, [], ◌∷◌, ◌++◌, ◌/◌, ◌%◌, slice_index, refl, ap}
use Rattle.hex.specs.Hex.{encode_lower, encode_with, lower_digits}

-- the hex of two pieces is theirs in a row
pub encode-append : (xs ys : List ℕ) → encode_lower (xs ++ ys) ≡ encode_lower xs ++ encode_lower ys
unfolding encode_with
encode-append [] ys = refl
encode-append (b ∷ xs) ys =
    ap (λ (u : List ℕ). slice_index lower_digits (b / 16) ∷ slice_index lower_digits (b % 16) ∷ u) (encode-append xs ys)
