-- Variable-length integers (varints; RFC 9000, section 16) and lengths (RFC 9420, section 2.1.2): which bytes spell
-- which number.
use Rattle.std.specs.Prelude.{◌≡◌, ℕ, suc, ◌+◌, ◌*◌, ◌^◌, ◌<◌, List, [], ◌∷◌, length, nat_lt, if◌then◌else◌}
use Rattle.tls_codec_wire.specs.Digits.{AreBytes, value}

-- a first byte b with the top bits t and the low bits r says that there are 2 ^ t bytes, and the others are bs
pub record VarintBy (t r : ℕ) (b : ℕ) (bs : List ℕ) (n : ℕ) : Type 0 where
  pub top : t < 4
  pub low : r < 64
  pub first : b ≡ 64 * t + r
  pub width : suc (length bs) ≡ 2 ^ t
  pub bytes : AreBytes bs
  pub number : r * 256 ^ length bs + value bs ≡ n

-- these bytes are laid out as n, in the least width or a greater one (RFC 9000, section 16)
abbrev pub LaidOut : List ℕ → ℕ → Type 0
LaidOut [] n = ⊥
LaidOut (b ∷ bs) n = (t : ℕ) × (r : ℕ) × VarintBy t r b bs n

-- the least number of bytes in which a number below 2 ^ 62 is laid out
abbrev pub least_width : ℕ → ℕ
least_width n =
    if nat_lt n 64 then 1
    else if nat_lt n 16384 then 2
    else if nat_lt n 1073741824 then 4
    else 8

-- these bytes spell n, which is below a limit: they are laid out so, in the least width (RFC 9420, section 2.1.2)
pub record SpelledBelow (limit : ℕ) (b : List ℕ) (n : ℕ) : Type 0 where
  pub laid_out : LaidOut b n
  pub least : length b ≡ least_width n
  pub below : n < limit

-- the integers are the numbers below 2 ^ 62
abbrev pub Varint : List ℕ → ℕ → Type 0
Varint = SpelledBelow (2 ^ 62)

-- the lengths are those below 2 ^ 30
abbrev pub VectorLength : List ℕ → ℕ → Type 0
VectorLength = SpelledBelow (2 ^ 30)

-- how many bytes spell a number below a limit, and 0 for any other number
abbrev pub width_below : ℕ → ℕ → ℕ
width_below limit n = if nat_lt n limit then least_width n else 0
