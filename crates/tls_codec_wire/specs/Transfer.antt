-- Why a piece is not moved whole.
use Rattle.std.specs.Prelude.{◌≡◌, ◌+◌, ◌*◌, ◌<◌, ◌≤◌, ◌^◌, ℕ, List, length, codes, Option, None, Some, Result, Ok, Err, ⊤}
use Rattle.std.proofs.Common.{Bor}
use Rattle.tls_codec_wire.specs.declared.error.Error.{Error}
use Rattle.tls_codec_wire.specs.declared.error.Error.TheVariants.{EncodingError, InvalidVectorLength, DecodingError, EndOfStream, OutOfMemory, TrailingData}
use Rattle.tls_codec_wire.specs.declared.device.Fault.{Fault}
use Rattle.tls_codec_wire.specs.declared.device.Fault.TheVariants.{Interrupted, NoMemory, Failed}
use Rattle.tls_codec_wire.specs.Counts.{Counts, RoseBy, FaultIsCounted}

-- fewer than n bytes were to come, if the source reports that
abbrev pub IsShortOf : ℕ → Option (List ℕ) → Type 0
IsShortOf n None = ⊤
IsShortOf n (Some xs) = length xs < n

-- the error of a fault after this number of interruptions in a row, if not retried: 16 are tried
abbrev pub ErrorOfFault : Fault → ℕ → Error → Error → Type 0
ErrorOfFault Interrupted retries failed e = (16 ≤ retries) × (e ≡ failed)
ErrorOfFault NoMemory retries failed e = e ≡ OutOfMemory
ErrorOfFault Failed retries failed e = e ≡ failed

-- n bytes were to be moved: for each 16 interruptions at most were counted, and one more on a refusal
abbrev pub TriedWithin : {A : Type 0} → ℕ → Counts → Counts → Result A Error → Type 0
TriedWithin n old new (Ok a) = new.interruptions ≤ old.interruptions + 16 * n
TriedWithin n old new (Err e) = new.interruptions ≤ old.interruptions + (16 * n + 1)

-- a read failed, and a fault is counted
abbrev pub IsReadFailure : Bor (List ℕ) → Counts → Counts → Type 0
IsReadFailure text old new = (text.now ≡ codes "read failed") × FaultIsCounted old new

-- why n bytes are not read: the source failed, they are not there, or it had no memory
abbrev pub ReadRefused : ℕ → List ℕ → Counts → Counts → Error → Type 0
ReadRefused n x old new (DecodingError text) = IsReadFailure text old new
ReadRefused n x old new EndOfStream = length x < n
ReadRefused n x old new OutOfMemory = RoseBy 1 old.shortages new.shortages
ReadRefused n x old new _ = ⊥

-- why a source isn't at its end: a byte was seen, it failed, or it had no memory
abbrev pub EndRefused : List ℕ → Counts → Counts → Error → Type 0
EndRefused x old new TrailingData = 0 < length x
EndRefused x old new (DecodingError text) = IsReadFailure text old new
EndRefused x old new OutOfMemory = RoseBy 1 old.shortages new.shortages
EndRefused x old new _ = ⊥

-- why no vector of the next n bytes is made: there is no vector of n bytes, the source failed, they
-- are not there, or there was no memory
abbrev pub BytesRefused : ℕ → List ℕ → Counts → Counts → Error → Type 0
BytesRefused n x old new InvalidVectorLength = 2 ^ 63 ≤ n
BytesRefused n x old new (DecodingError text) = IsReadFailure text old new
BytesRefused n x old new EndOfStream = length x < n
BytesRefused n x old new OutOfMemory = ⊤
BytesRefused n x old new _ = ⊥

-- why a piece is not sent whole: the sink failed, or it had no memory
abbrev pub WriteRefused : Counts → Counts → Error → Type 0
WriteRefused old new (EncodingError text) = (text.now ≡ codes "write failed") × FaultIsCounted old new
WriteRefused old new OutOfMemory = RoseBy 1 old.shortages new.shortages
WriteRefused old new _ = ⊥
