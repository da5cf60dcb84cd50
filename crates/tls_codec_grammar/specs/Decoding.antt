-- What decoders return.
use Rattle.std.specs.Prelude.{◌≡◌, ◌<◌, ◌⊎◌, ℕ, List, ◌++◌, length, Bool, false, Option, None, Some, Result, Ok, Err, Vec, ⊤}
use Rattle.std.specs.Global.{Global}
use Rattle.tls_codec_wire.specs.Counts.{Counts, FaultIsCounted, RoseBy}
use Rattle.std.specs.Borrow.{Bor}
use Rattle.tls_codec_wire.specs.Seen.{Causes, RefusedFor}
use Rattle.tls_codec_wire.specs.Bounded.{inner_of, limit_of}
use Rattle.tls_codec_wire.specs.declared.bounded.Bounded.{Bounded}
use Rattle.tls_codec_wire.specs.declared.device.Source.{Ghosts}
use Rattle.tls_codec_wire.specs.declared.error.Error.{Error}
use Rattle.tls_codec_wire.specs.declared.error.Error.TheVariants.{OutOfMemory, TrailingData}
use Rattle.tls_codec_grammar.specs.Tree.{Tree, trees}
use Rattle.tls_codec_grammar.specs.Grammar.{Grammar, Reading, content, sized}
use Rattle.tls_codec_grammar.specs.Format.{Format, content_format, sized_format}

-- ---- from a slice

-- x begins with a spelling of v, leaving rest
pub record Begins (spells : Grammar) (x : List ℕ) (v : Tree) (rest : List ℕ) : Type 0 where
  pub front : List ℕ
  pub whole : x ≡ front ++ rest
  pub spelled : spells Reading front v

-- a prefix of x is a spelling
pub record BeginsSome (spells : Grammar) (x : List ℕ) : Type 0 where
  pub value : Tree
  pub rest : List ℕ
  pub begins : Begins spells x value rest

-- a prefix of x is a spelling, and there was no memory for its value
abbrev pub NoMemoryFor : Grammar → List ℕ → Error → Type 0
NoMemoryFor spells x e = (e ≡ OutOfMemory) × BeginsSome spells x

-- no prefix of x is a spelling
abbrev pub NoneBegins : Grammar → List ℕ → Type 0
NoneBegins spells x = (v : Tree) (rest : List ℕ) → Begins spells x v rest → ⊥

-- why x is refused: no prefix of it is a spelling, or there was no memory; a lean type never requests any
pub record Refuses (spells : Grammar) (lean : Bool) (x : List ℕ) (e : Error) : Type 0 where
  pub cause : NoneBegins spells x ⊎ (e ≡ OutOfMemory)
  pub memory : e ≡ OutOfMemory → lean ≡ false

-- ---- all of a slice

-- x as a whole is no spelling
abbrev pub NoneSpelled : Grammar → List ℕ → Type 0
NoneSpelled spells x = (v : Tree) → spells Reading x v → ⊥

-- a proper prefix of x is a spelling
pub record LeavesBytes (spells : Grammar) (x : List ℕ) : Type 0 where
  pub value : Tree
  pub rest : List ℕ
  pub begins : Begins spells x value rest
  pub some : 0 < length rest

-- why x is refused as a whole: it is no spelling, or there was no memory; a lean type never requests any. If a
-- proper prefix of it is a spelling, that is what is returned, or that there was no memory.
pub record RefusesWhole (spells : Grammar) (lean : Bool) (x : List ℕ) (e : Error) : Type 0 where
  pub cause : NoneSpelled spells x ⊎ (e ≡ OutOfMemory)
  pub memory : e ≡ OutOfMemory → lean ≡ false
  pub trailing : LeavesBytes spells x → (e ≡ TrailingData) ⊎ (e ≡ OutOfMemory)

-- ---- from a source

-- the source gave just a spelling of v
pub record GaveSpelling {S : Type 0} (given : S → List ℕ → S → Type 0) (spells : Grammar) (old new : S) (v : Tree) : Type 0 where
  pub front : List ℕ
  pub held : given old front new
  pub spelled : spells Reading front v

-- the bytes that were to come, if reported, begin with a spelling of v, and the rest is to come now
abbrev pub ComesFirst : Grammar → Option (List ℕ) → Tree → Option (List ℕ) → Type 0
ComesFirst spells None v new = ⊤
ComesFirst spells (Some x) v None = ⊥
ComesFirst spells (Some x) v (Some rest) = Begins spells x v rest

-- why a source is refused, after x was seen of it: no prefix of x is a spelling, a fault of the
-- source was counted, or there was no memory; a lean type returns that only if the source had none
pub record RefusesSeen (spells : Grammar) (lean : Bool) (x : List ℕ) (old new : Counts) (e : Error) : Type 0 where
  pub cause : NoneBegins spells x ⊎ (FaultIsCounted old new ⊎ (e ≡ OutOfMemory))
  pub memory : e ≡ OutOfMemory → (lean ≡ false) ⊎ RoseBy 1 old.shortages new.shortages

-- ---- the decoders, by what they return

-- from a source
pub record RefusesFromSource {S : Type 0} (f : Format) (source : Ghosts S) (old new : S) (e : Error) : Type 0 where
  pub refused : RefusedFor source (RefusesSeen f.spells f.lean) old new e

-- a format is refused so, with an error that is among these
abbrev pub part_source_names : Format → Causes → Causes
part_source_names part names x old new e = RefusesSeen part.spells part.lean x old new e × names x old new e

pub record Named {S : Type 0} (f : Format) (names : Causes) (source : Ghosts S) (old new : S) (e : Error) : Type 0 where
  pub refused : RefusedFor source (part_source_names f names) old new e

-- from a source; only a spelling is taken from it
abbrev pub Reads : {T S : Type 0} → Format → (T → Tree) → Ghosts S → S → S → Result T Error → Type 0
Reads f plain source old new (Ok v) = GaveSpelling source.given f.spells old new (plain v)
Reads f plain source old new (Err e) = RefusesFromSource f source old new e

-- from a slice, with the rest of it
abbrev pub Splits : {T : Type 0} → Format → (T → Tree) → List ℕ → Result (T × Bor (List ℕ)) Error → Type 0
Splits f plain x (Ok found) = Begins f.spells x (plain found.0) found.1.now
Splits f plain x (Err e) = Refuses f.spells f.lean x e

-- from all of a slice
abbrev pub ReadsWhole : {T : Type 0} → Format → (T → Tree) → List ℕ → Result T Error → Type 0
ReadsWhole f plain x (Ok v) = f.spells Reading x (plain v)
ReadsWhole f plain x (Err e) = RefusesWhole f.spells f.lean x e

-- ---- elements at once

-- elements that all of some bytes spell in a row, or none, and then nothing is said of the bytes;
-- or there was no memory for them, though one begins the bytes
abbrev pub AllRead : {T : Type 0} → Format → (T → Tree) → List ℕ → Result (Option (Vec T Global)) Error → Type 0
AllRead f plain x (Ok (Some elements)) = content f.spells Reading x (trees plain elements.items)
AllRead f plain x (Ok None) = ⊤
AllRead f plain x (Err e) = NoMemoryFor f.spells x e

-- elements that a source gave up to its limit; or none, and nothing was taken
abbrev pub AllGiven : {T S : Type 0} → Format → (T → Tree) → Ghosts S → Bounded S → Bounded S → Result (Option (Vec T Global)) Error → Type 0
AllGiven f plain source old new (Ok (Some elements)) = GaveSpelling source.given (sized (limit_of old) (content f.spells)) (inner_of old) (inner_of new) (trees plain elements.items)
AllGiven f plain source old new (Ok None) = new ≡ old
AllGiven f plain source old new (Err e) = RefusesFromSource (sized_format (limit_of old) (content_format f)) source (inner_of old) (inner_of new) e
