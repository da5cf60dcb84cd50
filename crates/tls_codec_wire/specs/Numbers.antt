-- What calls on numbers in bytes return, whatever it is that spells them.
use Rattle.std.specs.Prelude.{◌≡◌, ◌≤◌, ◌⊎◌, ℕ, List, ◌++◌, length, Option}
use Rattle.std.specs.Io.KnownBytes.{Appends}
use Rattle.tls_codec_wire.specs.Counts.{Counts, RoseBy}
use Rattle.tls_codec_wire.specs.Device.{Gives, Received}
use Rattle.tls_codec_wire.specs.Transfer.{IsReadFailure, WriteRefused}
use Rattle.tls_codec_wire.specs.declared.error.Error.{Error}
use Rattle.tls_codec_wire.specs.declared.error.Error.TheVariants.{InvalidVectorLength, DecodingError, OutOfMemory}

-- ---- reading

-- x begins with a spelling of n, leaving rest
pub record BeginsNumber (spells : List ℕ → ℕ → Type 0) (x : List ℕ) (n : ℕ) (rest : List ℕ) : Type 0 where
  pub front : List ℕ
  pub whole : x ≡ front ++ rest
  pub spelled : spells front n

-- no prefix of x is a spelling
abbrev pub NoNumberBegins : (List ℕ → ℕ → Type 0) → List ℕ → Type 0
NoNumberBegins spells x = (n : ℕ) (rest : List ℕ) → BeginsNumber spells x n rest → ⊥

-- the source gave just a spelling of n
pub record GaveNumber {S : Type 0} (given : Gives S) (spells : List ℕ → ℕ → Type 0) (old new : S) (n : ℕ) : Type 0 where
  pub front : List ℕ
  pub held : given old front new
  pub spelled : spells front n

-- why none is read from a source: it failed, it had no memory, or the bytes are refused so
abbrev pub NumberNotRead : (List ℕ → Error → Type 0) → List ℕ → Counts → Counts → Error → Type 0
NumberNotRead refuses x old new (DecodingError text) = IsReadFailure text old new ⊎ refuses x (DecodingError text)
NumberNotRead refuses x old new OutOfMemory = RoseBy 1 old.shortages new.shortages
NumberNotRead refuses x old new e = refuses x e

-- ---- writing

-- the sink received a spelling of n, of `width` bytes, after what it had
pub record SentNumber (spells : List ℕ → ℕ → Type 0) (old new : Option (List ℕ)) (n width : ℕ) : Type 0 where
  pub form : List ℕ
  pub spelled : spells form n
  pub held : Appends old new form
  pub count : width ≡ length form

-- the sink received a prefix of a spelling of n
pub record BeganNumber (spells : List ℕ → ℕ → Type 0) (old new : Option (List ℕ)) (n : ℕ) : Type 0 where
  pub form : List ℕ
  pub spelled : spells form n
  pub received : Received old new form

-- why a number is not sent: it is not below the limit, the sink failed, or it had no memory
abbrev pub NumberNotSent : (limit n : ℕ) → Counts → Counts → Error → Type 0
NumberNotSent limit n old new InvalidVectorLength = limit ≤ n
NumberNotSent limit n old new e = WriteRefused old new e
