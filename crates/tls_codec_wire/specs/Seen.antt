-- Why calls on a source are refused: by the bytes that it gave, and those that it reported to come.
use Rattle.std.specs.Prelude.{◌≡◌, ℕ, List, ◌++◌, Option, None, Some}
use Rattle.tls_codec_wire.specs.Bounded.{first_bytes, GaveWithin, inner_of}
use Rattle.tls_codec_wire.specs.Counts.{Counts}
use Rattle.tls_codec_wire.specs.declared.bounded.Bounded.{Bounded}
use Rattle.tls_codec_wire.specs.declared.device.Source.{Ghosts}
use Rattle.tls_codec_wire.specs.declared.error.Error.{Error}

-- the bytes to come, if the source reports them, else those that were given
abbrev pub reported_or : Option (List ℕ) → List ℕ → List ℕ
reported_or None gave = gave
reported_or (Some reported) gave = reported

-- x is what a call could see. For a slice these are all bytes to come; for a file, those given. A
-- later step sees more: first what was given before it (`front`, up to the state `at`), then what
-- the source reports at `at`, or gave then (`rest`). The law is `what_was_seen_was_reported_or_given`.
pub record Seen {S : Type 0} (source : Ghosts S) (old new : S) (x : List ℕ) : Type 0 where
  pub front : List ℕ
  pub at : S
  pub rest : List ℕ
  pub gave : source.given old front at
  pub goes_on : source.given at rest new
  pub whole : x ≡ front ++ reported_or (source.coming at) rest

-- causes of a refusal: by the bytes that were seen, the counts before and after, and the error
abbrev pub Causes : Type 1
Causes = List ℕ → Counts → Counts → Error → Type 0

-- a call on a source is refused for such a cause
pub record RefusedFor {S : Type 0} (source : Ghosts S) (causes : Causes) (old new : S) (e : Error) : Type 0 where
  pub bytes : List ℕ
  pub seen : Seen source old new bytes
  pub cause : causes bytes (source.counts old) (source.counts new) e

-- the first bytes of a source, as a source
abbrev pub within : {S : Type 0} → Ghosts S → Ghosts (Bounded S)
within source = record { coming = first_bytes source.coming; counts = λ b. source.counts (inner_of b); given = GaveWithin source.given }
