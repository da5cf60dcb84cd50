-- Numbers as bytes, the most significant first (RFC 8446, section 3.3).
use Rattle.std.specs.Prelude.{◌≡◌, ℕ, ◌+◌, ◌*◌, ◌^◌, ◌<◌, List, [], ◌∷◌, ◌++◌, length}

-- each number is a byte
abbrev pub AreBytes : List ℕ → Type 0
AreBytes [] = Unit {0}
AreBytes (b ∷ bs) = (b < 256) × AreBytes bs

-- the number that bytes stand for
abbrev pub value : List ℕ → ℕ
value [] = 0
value (b ∷ bs) = b * 256 ^ length bs + value bs

-- k bytes that stand for n
pub record Digits (k : ℕ) (b : List ℕ) (n : ℕ) : Type 0 where
  pub width : length b ≡ k
  pub bytes : AreBytes b
  pub number : value b ≡ n

-- ---- law

pub bytes_in_order : (a b : List ℕ) → AreBytes a → AreBytes b → AreBytes (a ++ b)
bytes_in_order [] b p q = q
bytes_in_order (x ∷ xs) b p q = (p.0, bytes_in_order xs b p.1 q)
