-- What one call of a device does, and what a source gives in a row of calls.
use Rattle.std.specs.Prelude.{◌≡◌, ℕ, ◌<◌, Bool, true, false, List, [], ◌++◌, length, take, Option, None, Some, Result, Ok, Err, Vec, ⊤}
use Rattle.std.specs.Global.{Global}
use Rattle.std.specs.Io.KnownBytes.{Consumes, Appends}
use Rattle.tls_codec_wire.specs.declared.device.Fault.{Fault}
use Rattle.tls_codec_wire.specs.declared.device.Fault.TheVariants.{Interrupted, NoMemory, Failed}
use Rattle.tls_codec_wire.specs.Counts.{Counts, NoneFell, raised}

-- how many bytes a call moved
abbrev pub count_moved : Result ℕ Fault → ℕ
count_moved (Ok n) = n
count_moved (Err e) = 0

-- the front of the buffer, or of the piece, that a call moved
abbrev pub bytes_moved : Result ℕ Fault → List ℕ → List ℕ
bytes_moved result buffer = take (count_moved result) buffer

-- ---- counts

-- the counts are these numbers
abbrev pub StandAt : Counts → (failures interruptions shortages : ℕ) → Type 0
StandAt counts f i s = (counts.failures ≡ f) × (counts.interruptions ≡ i) × (counts.shortages ≡ s)

-- a fault raised its count by one, and no other
abbrev pub FaultRaises : Fault → Counts → Counts → Type 0
FaultRaises Failed old new = StandAt new (raised old.failures) old.interruptions old.shortages
FaultRaises Interrupted old new = StandAt new old.failures (raised old.interruptions) old.shortages
FaultRaises NoMemory old new = StandAt new old.failures old.interruptions (raised old.shortages)

-- a call of `pull` raised the count of its fault, and no other
abbrev pub PullIsCounted : Result ℕ Fault → Counts → Counts → Type 0
PullIsCounted (Ok n) old new = StandAt new old.failures old.interruptions old.shortages
PullIsCounted (Err fault) old new = FaultRaises fault old new

-- so did a call of `give`: if it takes no byte of a nonempty piece, that is a failure
abbrev pub GiveIsCounted : Result ℕ Fault → ℕ → Counts → Counts → Type 0
GiveIsCounted (Ok n) size old new =
    (n ≡ 0 → 0 < size → new.failures ≡ raised old.failures)
    × (0 < n → new.failures ≡ old.failures)
    × (size ≡ 0 → new.failures ≡ old.failures)
    × (new.interruptions ≡ old.interruptions)
    × (new.shortages ≡ old.shortages)
GiveIsCounted (Err fault) size old new = FaultRaises fault old new

-- ---- what a source has given

-- the type of "between these two states the source has given these bytes, and nothing else"
abbrev pub Gives : Type 0 → Type 1
Gives S = S → List ℕ → S → Type 0

-- between a state and itself nothing was given
abbrev pub GivesNothing : {S : Type 0} → Gives S → Type 0
GivesNothing {S} given = (a : S) → given a [] a

-- what is given in two steps is given in a row
abbrev pub GivesInOrder : {S : Type 0} → Gives S → Type 0
GivesInOrder {S} given =
    (a : S) (xs : List ℕ) (b : S) (ys : List ℕ) (c : S)
    → given a xs b → given b ys c → given a (xs ++ ys) c

-- what is given was the front of the bytes to come
abbrev pub GivesFromFront : {S : Type 0} → Gives S → (S → Option (List ℕ)) → Type 0
GivesFromFront {S} given coming =
    (a : S) (xs : List ℕ) (b : S) → given a xs b → Consumes (coming a) (coming b) xs

-- no count falls
abbrev pub NoCountFalls : {S : Type 0} → Gives S → (S → Counts) → Type 0
NoCountFalls {S} given counts =
    (a : S) (xs : List ℕ) (b : S) → given a xs b → NoneFell (counts a) (counts b)

-- some bytes were given, and nothing else
pub record Gave {S : Type 0} (given : Gives S) (old new : S) : Type 0 where
  pub bytes : List ℕ
  pub held : given old bytes new

-- what was given came after the bytes of a vector
pub record Came {S : Type 0} (given : Gives S) (old new : S) (before after : List ℕ) : Type 0 where
  pub bytes : List ℕ
  pub held : given old bytes new
  pub appended : after ≡ before ++ bytes

-- the bytes that a call moved come after those of a vector
pub record PulledOnto {S : Type 0} (given : Gives S) (old new : S) (result : Result ℕ Fault) (before after : List ℕ) : Type 0 where
  pub bytes : List ℕ
  pub held : given old bytes new
  pub appended : after ≡ before ++ bytes
  pub count : length bytes ≡ count_moved result

-- exactly n bytes were given and appended to a vector, or nothing was
abbrev pub AppendedAtHand : {S : Type 0} → Gives S → S → S → ℕ → Bool → Vec ℕ Global → Vec ℕ Global → Type 0
AppendedAtHand given old new n true before after = PulledOnto given old new (Ok n) before.items after.items
AppendedAtHand given old new n false before after = (new ≡ old) × (after ≡ before)

-- p is a prefix of s
abbrev pub IsPrefix : List ℕ → List ℕ → Type 0
IsPrefix p s = (rest : List ℕ) × (s ≡ p ++ rest)

-- these bytes come first, if the source reports the bytes to come
abbrev pub IsAtHand : List ℕ → Option (List ℕ) → Type 0
IsAtHand bytes None = ⊤
IsAtHand bytes (Some xs) = IsPrefix bytes xs

-- ---- what a sink has received

-- a prefix of these bytes was received
pub record Received (old new : Option (List ℕ)) (bytes : List ℕ) : Type 0 where
  pub front : List ℕ
  pub held : Appends old new front
  pub beginning : IsPrefix front bytes
