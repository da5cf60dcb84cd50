-- Bytes as values.
use Rattle.std.proofs.Common.{◌≡◌, ℕ, List, [], ◌∷◌, map, refl, ap}
use Rattle.tls_codec.specs.OwnMessages.{number_trees}
use Rattle.tlsview_run.specs.Texts.{number_in, parts}

-- the numbers in what bytes stand for are the bytes
pub numbers_again : (bytes : List ℕ) → map number_in (parts (number_trees bytes)) ≡ bytes
numbers_again [] = refl
numbers_again (b ∷ bs) = ap (λ l. b ∷ l) (numbers_again bs)
