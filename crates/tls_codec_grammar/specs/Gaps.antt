-- Gaps: room that a vector leaves for a length, which is put there once its content is there.
use Rattle.std.specs.Prelude.{◌≡◌, ◌+◌, ◌-◌, ◌^◌, ◌≤◌, ◌⊎◌, ℕ, List, ◌++◌, length, take, drop, ⊤}
use Rattle.tls_codec_wire.specs.declared.error.Error.{Error}
use Rattle.tls_codec_wire.specs.declared.error.Error.TheVariants.{InvalidVectorLength, OutOfMemory}
use Rattle.tls_codec_grammar.specs.Field.{Field}

-- width bytes come after the old ones
pub record OpenedGap (old new : List ℕ) (width : ℕ) : Type 0 where
  pub gap : List ℕ
  pub held : new ≡ old ++ gap
  pub count : length gap ≡ width

-- the gap bytes after the first at bytes are width bytes now; the bytes before and after them are the same
pub record FitGap (old new : List ℕ) (at gap width : ℕ) : Type 0 where
  pub between : List ℕ
  pub held : new ≡ take at old ++ (between ++ drop (at + gap) old)
  pub count : length between ≡ width

-- the gap bytes after the first at bytes are now the spelling of the number of bytes after them, which has width bytes
pub record FilledGap (field : Field) (old new : List ℕ) (at gap width : ℕ) : Type 0 where
  pub form : List ℕ
  pub spelled : field.spells form (length old - (at + gap))
  pub held : new ≡ take at old ++ (form ++ drop (at + gap) old)
  pub count : width ≡ length form

-- why a gap after at bytes and before n bytes is not filled: the field doesn't hold n, the vector would pass
-- `isize::MAX` bytes, or there was no memory
abbrev pub GapRefused : Field → (at n : ℕ) → Error → Type 0
GapRefused field at n InvalidVectorLength = (¬ field.holds n) ⊎ (2 ^ 63 ≤ at + field.width n + n)
GapRefused field at n OutOfMemory = ⊤
GapRefused field at n _ = ⊥

-- A gap that is never to blame for a vector that is too long: there is none, or it has 8 bytes at most after 2^61 bytes
-- at most. To pass 2^63 bytes, what comes after such a gap must itself be longer than any length field can say.
abbrev pub IsSafeGap : (at gap : ℕ) → Type 0
IsSafeGap at gap = (gap ≡ 0) ⊎ ((gap ≤ 8) × (at ≤ 2 ^ 61))
