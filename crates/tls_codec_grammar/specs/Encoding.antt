-- What encoders return.
use Rattle.std.specs.Prelude.{◌≡◌, ◌≤◌, ◌+◌, ◌^◌, ◌⊎◌, ℕ, List, ◌++◌, length, Option, None, Some, Result, Ok, Err, Vec}
use Rattle.std.specs.Global.{Global}
use Rattle.std.specs.Io.KnownBytes.{Appends}
use Rattle.tls_codec_wire.specs.Counts.{NoneFell}
use Rattle.tls_codec_wire.specs.Device.{IsPrefix}
use Rattle.tls_codec_wire.specs.Transfer.{WriteRefused}
use Rattle.tls_codec_wire.specs.declared.device.Sink.{Ghosts}
use Rattle.tls_codec_wire.specs.declared.error.Error.{Error}
use Rattle.tls_codec_wire.specs.declared.error.Error.TheVariants.{InvalidVectorLength, OutOfMemory}
use Rattle.tls_codec_grammar.specs.Tree.{Tree}
use Rattle.tls_codec_grammar.specs.Grammar.{Grammar}
use Rattle.tls_codec_grammar.specs.Format.{Format, content_format}
use Rattle.tls_codec_grammar.specs.Shortest.{IsShortest}
use Rattle.tls_codec_grammar.specs.Announced.{capped}

-- ---- to a sink

-- the sink received the shortest form of v, of n bytes
pub record Sends {S : Type 0} (f : Format) (v : Tree) (sink : Ghosts S) (old new : S) (n : ℕ) : Type 0 where
  pub form : List ℕ
  pub shortest : IsShortest f.spells form v
  pub held : Appends (sink.received old) (sink.received new) form
  pub count : n ≡ capped (length form)
  pub fell : NoneFell (sink.counts old) (sink.counts new)

-- the sink kept what it had, and if v has a shortest form it received a prefix of that; the error is tied to a count
-- of the sink, or is one that the format names for v
pub record Breaks {S : Type 0} (f : Format) (v : Tree) (sink : Ghosts S) (old new : S) (e : Error) : Type 0 where
  pub sent : List ℕ
  pub held : Appends (sink.received old) (sink.received new) sent
  pub beginning : (form : List ℕ) → IsShortest f.spells form v → IsPrefix sent form
  pub cause : WriteRefused (sink.counts old) (sink.counts new) e ⊎ f.refuses v e
  pub fell : NoneFell (sink.counts old) (sink.counts new)

-- an encoder that is given a sink
abbrev pub Writes : {S : Type 0} → Format → Tree → Ghosts S → S → S → Result ℕ Error → Type 0
Writes f v sink old new (Ok n) = Sends f v sink old new n
Writes f v sink old new (Err e) = Breaks f v sink old new e

-- elements' forms in a row at once, or none of them, and nothing was sent
abbrev pub AllSent : {S : Type 0} → Format → Tree → Ghosts S → S → S → Result (Option ℕ) Error → Type 0
AllSent f v sink old new (Ok (Some n)) = Sends (content_format f) v sink old new n
AllSent f v sink old new (Ok None) = new ≡ old
AllSent f v sink old new (Err e) = Breaks (content_format f) v sink old new e

-- ---- to a vector

-- each shortest form of v passes `isize::MAX` bytes; there is one such form at most
abbrev pub PassesVector : Grammar → Tree → Type 0
PassesVector spells v = (form : List ℕ) → IsShortest spells form v → 2 ^ 63 ≤ length form

-- why no vector is made: there was no memory, the format names the error for v, or its shortest form passes the greatest
-- vector
pub record RefusesVector (f : Format) (v : Tree) (e : Error) : Type 0 where
  pub cause : (e ≡ OutOfMemory) ⊎ (f.refuses v e ⊎ ((e ≡ InvalidVectorLength) × PassesVector f.spells v))

-- an encoder that makes a vector
abbrev pub Makes : Format → Tree → Result (Vec ℕ Global) Error → Type 0
Makes f v (Ok bytes) = IsShortest f.spells bytes.items v
Makes f v (Err e) = RefusesVector f v e

-- ---- after what a vector has

-- the shortest form of v comes after the old bytes, and has n bytes
pub record Appended (f : Format) (v : Tree) (old new : List ℕ) (n : ℕ) : Type 0 where
  pub form : List ℕ
  pub shortest : IsShortest f.spells form v
  pub held : new ≡ old ++ form
  pub count : n ≡ length form

-- each shortest form of v passes `isize::MAX` bytes after n others
abbrev pub OverflowsVectorAfter : (n : ℕ) → Grammar → Tree → Type 0
OverflowsVectorAfter n spells v = (form : List ℕ) → IsShortest spells form v → 2 ^ 63 ≤ n + length form

-- the bytes are the old ones: there was no memory, the format names the error for v, or its shortest form after them
-- passes the greatest vector
pub record AppendRefused (f : Format) (v : Tree) (old new : List ℕ) (e : Error) : Type 0 where
  pub kept : new ≡ old
  pub cause : (e ≡ OutOfMemory) ⊎ (f.refuses v e ⊎ ((e ≡ InvalidVectorLength) × OverflowsVectorAfter (length old) f.spells v))

-- an encoder that is given a vector
abbrev pub AppendsForm : Format → Tree → List ℕ → List ℕ → Result ℕ Error → Type 0
AppendsForm f v old new (Ok n) = Appended f v old new n
AppendsForm f v old new (Err e) = AppendRefused f v old new e

-- elements' forms in a row at once, or none of them, and nothing was appended
abbrev pub AllAppended : Format → Tree → List ℕ → List ℕ → Result (Option ℕ) Error → Type 0
AllAppended f v old new (Ok (Some n)) = Appended (content_format f) v old new n
AllAppended f v old new (Ok None) = new ≡ old
AllAppended f v old new (Err e) = AppendRefused (content_format f) v old new e
