-- How often a list engine tried to read an element.
use Rattle.std.specs.Prelude.{◌≡◌, ◌≤◌, ◌⊎◌, ℕ, ◌+◌, ◌-◌, ◌^◌, List, length, min, take, Option, None, Some, Result, Ok, Err, Vec}
use Rattle.std.specs.Global.{Global}
use Rattle.tls_codec_wire.specs.Bounded.{inner_of, limit_of}
use Rattle.tls_codec_wire.specs.Counts.{Counts, FaultIsCounted}
use Rattle.tls_codec_wire.specs.Device.{Gives}
use Rattle.tls_codec_wire.specs.Seen.{Causes, RefusedFor}
use Rattle.tls_codec_wire.specs.declared.bounded.Bounded.{Bounded}
use Rattle.tls_codec_wire.specs.declared.device.Source.{Ghosts}
use Rattle.tls_codec_wire.specs.declared.error.Error.{Error}
use Rattle.tls_codec_wire.specs.declared.error.Error.TheVariants.{OutOfMemory}
use Rattle.tls_codec_grammar.specs.Grammar.{Grammar}
use Rattle.tls_codec_base.specs.WholeElements.{WholeElements}
use Rattle.tls_codec_base.specs.declared.lists.Turns.{Turns}

-- the count
abbrev pub turns_of : Turns → ℕ
turns_of turns = turns.count

-- this number of turns was added, up to the greatest count
abbrev pub TurnedBy : ℕ → Turns → Turns → Type 0
TurnedBy n old new = turns_of new ≡ min (turns_of old + n) (2 ^ 64 - 1)

-- one turn was added for each of these
abbrev pub TurnedEach : {T : Type 0} → List T → Turns → Turns → Type 0
TurnedEach xs old new = TurnedBy (length xs) old new

-- n turns were added, or fewer
pub record TurnedAtMost (n : ℕ) (old new : Turns) : Type 0 where
  pub more : turns_of old ≤ turns_of new
  pub most : turns_of new ≤ turns_of old + n

-- ---- refused lists

-- it ran out of memory, or a fault was counted
abbrev pub MemoryOrFault : Counts → Counts → Error → Type 0
MemoryOrFault before after e = (e ≡ OutOfMemory) ⊎ FaultIsCounted before after

-- a list was refused that was to fill the bytes x: one turn more was added than x has whole elements; if it is
-- excused, at most that
pub record TurnedPast (spells : Grammar) (x : List ℕ) (Excused : Type 0) (old new : Turns) : Type 0 where
  pub at_most : (m : ℕ) → WholeElements spells m x → TurnedAtMost (m + 1) old new
  pub exactly : Excused ⊎ ((m : ℕ) × WholeElements spells m x × TurnedBy (m + 1) old new)

-- from a slice x, whose first n bytes it was to fill: excused if it ran out of memory
abbrev pub TurnedRefused : Grammar → ℕ → List ℕ → Turns → Turns → Error → Type 0
TurnedRefused spells n x old new e = TurnedPast spells (take n x) (e ≡ OutOfMemory) old new

-- from a source after x was seen of it: excused also if a fault was counted
abbrev pub SourceTurnedRefused : Grammar → ℕ → Turns → Turns → Causes
SourceTurnedRefused spells n old new x before after e = TurnedPast spells (take n x) (MemoryOrFault before after e) old new

-- ---- at most

-- at most one turn more was added than the smaller of n and the number of the bytes x
abbrev pub TurnedWithin : ℕ → List ℕ → Turns → Turns → Type 0
TurnedWithin n x old new = TurnedAtMost (min n (length x) + 1) old new

-- the same of bytes that the source gave, which gave nothing else
pub record TurnedWithinGiven {S : Type 0} (given : Gives S) (n : ℕ) (a b : S) (old new : Turns) : Type 0 where
  pub bytes : List ℕ
  pub held : given a bytes b
  pub within : TurnedWithin n bytes old new

-- ---- elements at once

-- a list of what a source may still give was refused at once: its turns are those of a list that is read one by one
pub record TurnedRefusedAtOnce {S : Type 0} (spells : Grammar) (source : Ghosts S) (a b : Bounded S) (old new : Turns) (e : Error) : Type 0 where
  pub turned_if_refused : RefusedFor source (SourceTurnedRefused spells (limit_of a) old new) (inner_of a) (inner_of b) e
  pub turned_at_most : TurnedWithinGiven source.given (limit_of a) (inner_of a) (inner_of b) old new

-- elements that are read at once take a turn each; if there are none, none was added
abbrev pub TurnedAll : {T S : Type 0} → Grammar → Ghosts S → Bounded S → Bounded S → Turns → Turns → Result (Option (Vec T Global)) Error → Type 0
TurnedAll spells source a b old new (Ok (Some elements)) = TurnedEach elements.items old new
TurnedAll spells source a b old new (Ok None) = new ≡ old
TurnedAll spells source a b old new (Err e) = TurnedRefusedAtOnce spells source a b old new e
