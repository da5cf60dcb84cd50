-- What a call says of bytes, in numbers.
use Rattle.std.specs.Prelude.{◌≡◌, ◌≢◌, ◌≤◌, ◌-◌, ◌⊎◌, ◌↔◌, ℕ, List, length, take, false}
use Rattle.tls_codec_wire.specs.declared.error.Error.{Error}
use Rattle.tls_codec_grammar.specs.Grammar.{Grammar}
use Rattle.tls_codec_grammar.specs.Format.{Format}
use Rattle.tls_codec_grammar.specs.Decoding.{BeginsSome, NoneBegins}
use Rattle.tls_codec_base.specs.PartNames.{IsSpelling, SliceNames}
use Rattle.tls_codec_validate.specs.declared.rejected.Rejected.{Rejected}
use Rattle.tls_codec_validate.specs.Places.{PlacedNames, RejectedAt}
use Rattle.tls_codec_outcome.specs.Statuses.{detail_number, status_number}

-- ---- the status

-- it is 0 exactly if x begins with an encoding, and never that of OutOfMemory
pub record Decides (f : Format) (x : List ℕ) (status : ℕ) : Type 0 where
  pub accepted : (status ≡ 0) ↔ BeginsSome f.spells x
  pub not_memory : status ≢ 10

-- it is 0 only if x begins with an encoding. If it is another one, x begins with none, or there was no memory; a lean
-- type never asks for any
pub record DecidesInMemory (f : Format) (x : List ℕ) (status : ℕ) : Type 0 where
  pub accepted : status ≡ 0 → BeginsSome f.spells x
  pub refused : status ≢ 0 → NoneBegins f.spells x ⊎ (status ≡ 10)
  pub memory : status ≡ 10 → f.lean ≡ false

-- ---- how many bytes are taken

-- the first n bytes of x are an encoding
pub record TakesFirst (spells : Grammar) (x : List ℕ) (n : ℕ) : Type 0 where
  pub within : n ≤ length x
  pub spelled : IsSpelling spells (take n x)

-- those of the encoding that x begins with, or none
pub record IsTaken (f : Format) (x : List ℕ) (status taken : ℕ) : Type 0 where
  pub accepted : status ≡ 0 → TakesFirst f.spells x taken
  pub refused : status ≢ 0 → taken ≡ 0

-- ---- why x is refused

-- these are the numbers of a rejection: of its error, and of its place in x
pub record HasNumbers (x : List ℕ) (status at detail : ℕ) (r : Rejected) : Type 0 where
  pub status_is : status ≡ status_number r.error
  pub at_is : at ≡ length x - length r.rest.now
  pub detail_is : detail ≡ detail_number r.error

-- of a status that isn't 0 the numbers of a rejection, with an error that is named of x and a field at which it is
pub record IsRejection (names : SliceNames) (places : PlacedNames) (x : List ℕ) (status at detail : ℕ) : Type 0 where
  pub accepted : status ≡ 0 → (at ≡ 0) × (detail ≡ 0)
  pub rejected : status ≢ 0 → (r : Rejected) × RejectedAt names places x r × HasNumbers x status at detail r

-- of a status that isn't 0 the numbers of an error that is named of x
pub record IsNamed (names : SliceNames) (x : List ℕ) (status detail : ℕ) : Type 0 where
  pub accepted : status ≡ 0 → detail ≡ 0
  pub refused : status ≢ 0 → (e : Error) × names x e × (status ≡ status_number e) × (detail ≡ detail_number e)
