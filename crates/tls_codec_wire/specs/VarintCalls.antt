-- What calls on variable-length integers and lengths return: why bytes are refused, and where a length is put.
use Rattle.std.specs.Prelude.{◌≡◌, ℕ, suc, ◌*◌, ◌/◌, ◌-◌, ◌^◌, ◌<◌, ◌≤◌, ◌+◌, ◌⊎◌, List, [], ◌∷◌, ◌++◌, length, take, drop, ⊤}
use Rattle.tls_codec_wire.specs.Varint.{LaidOut, VectorLength, least_width, width_below}
use Rattle.tls_codec_wire.specs.declared.error.Error.{Error}
use Rattle.tls_codec_wire.specs.declared.error.Error.TheVariants.{InvalidVectorLength, EndOfStream, OutOfMemory}

-- ---- reading

-- there is no byte, or there are fewer than the first one asks for
abbrev pub EndsEarly : List ℕ → Type 0
EndsEarly [] = ⊤
EndsEarly (b ∷ bs) = suc (length bs) < 2 ^ (b / 64)

-- all of these are there, and they are more than the number needs, or it is not below the limit
pub record IsWideOrGreat (limit : ℕ) (x : List ℕ) : Type 0 where
  pub front : List ℕ
  pub rest : List ℕ
  pub number : ℕ
  pub whole : x ≡ front ++ rest
  pub laid_out : LaidOut front number
  pub cause : (least_width number < length front) ⊎ (limit ≤ number)

-- why x begins with no number below a limit, by the error that says so
abbrev pub RefusesBelow : ℕ → List ℕ → Error → Type 0
RefusesBelow limit x EndOfStream = EndsEarly x
RefusesBelow limit x InvalidVectorLength = IsWideOrGreat limit x
RefusesBelow limit x _ = ⊥

-- what a first byte says: how many bytes follow it, and the least number that needs that many
pub record SaysWidth (first more least : ℕ) : Type 0 where
  pub width : suc more ≡ 2 ^ (first / 64)
  pub few : more < 8
  pub needed : (n : ℕ) → n < 64 * 256 ^ more → least ≤ n → least_width n ≡ suc more
  pub wide : (n : ℕ) → n < least → least_width n < suc more

-- ---- writing

-- the top bits t are the least for n: they say 2 ^ t bytes, which is this width, and stand for this mark there
pub record HasLeastTopBits (n mark width : ℕ) : Type 0 where
  pub top : ℕ
  pub small : top < 4
  pub fits : n < 64 * 256 ^ (2 ^ top - 1)
  pub says : width ≡ 2 ^ top
  pub marks : mark ≡ 64 * top * 256 ^ (2 ^ top - 1)
  pub least : width ≡ least_width n

-- ---- putting a length before what it counts

-- the spelling of the number of bytes after a place comes before them, and has `width` bytes
pub record InsertedLength (old new : List ℕ) (at width : ℕ) : Type 0 where
  pub form : List ℕ
  pub spelled : VectorLength form (length old - at)
  pub held : new ≡ take at old ++ (form ++ drop at old)
  pub count : width ≡ length form

-- why a length is not put before n bytes of a vector of `whole` bytes: no length field holds it,
-- the vector would pass `isize::MAX` bytes, or there was no memory
abbrev pub InsertRefused : (n whole : ℕ) → Error → Type 0
InsertRefused n whole InvalidVectorLength = (2 ^ 30 ≤ n) ⊎ (2 ^ 63 ≤ whole + width_below (2 ^ 30) n)
InsertRefused n whole OutOfMemory = ⊤
InsertRefused n whole _ = ⊥
